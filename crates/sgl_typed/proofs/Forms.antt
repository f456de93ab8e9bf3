-- What a script keeps, part by part.
use Rattle.std.proofs.Common.{◌≡◌, true, [], length, map}
use Rattle.std.specs.List.{list_all, sum_by}
use Rattle.std.specs.Prelude.{nat_le}
use Rattle.std.proofs.lemmas.Bool.{and_parts}
use Rattle.sgl_typed.specs.declared.script.TScript.{TScript}
use Rattle.sgl_typed.specs.WellFormed.{Callees, action_fits, agg_fits, is_well_formed, main_body, removal_fits, routines_fit, rules_fit, slots_fit, spawn_fits, statements_fit}

-- what `main` may call
abbrev pub callees_of : TScript → Callees
callees_of s = record { actions = map (λ action. action.params) s.actions; routines = map (λ routine. length routine.params) s.routines }

-- each part of what a script keeps
pub record FormOf (s : TScript) : Type 0 where
  pub few_aggs : nat_le (length s.aggs) 64 ≡ true
  pub few_clauses : nat_le (sum_by (λ action. length action.ons) s.actions) 64 ≡ true
  pub aggs : list_all (agg_fits s.schema) s.aggs ≡ true
  pub actions : list_all (action_fits s.schema) s.actions ≡ true
  pub routines : routines_fit s.schema s.aggs s.actions [] s.routines ≡ true
  pub main : statements_fit (callees_of s) s.main (main_body s.schema s.aggs []) ≡ true
  pub slots : slots_fit s.routines s.main s.slots ≡ true
  pub rules : rules_fit s.schema s.rules ≡ true
  pub spawn : spawn_fits s.schema s.spawn ≡ true
  pub removal : removal_fits s.schema s.removal ≡ true

pub form_of : (s : TScript) → FormOf s
unfolding is_well_formed
form_of s =
    let all_but_removal = and_parts _ _ s.well_formed in
    let upto_rules = and_parts _ _ all_but_removal.0 in
    let upto_slots = and_parts _ _ upto_rules.0 in
    let upto_main = and_parts _ _ upto_slots.0 in
    let upto_routines = and_parts _ _ upto_main.0 in
    let upto_actions = and_parts _ _ upto_routines.0 in
    let upto_aggs = and_parts _ _ upto_actions.0 in
    let limits = and_parts _ _ upto_aggs.0 in
    let few = and_parts _ _ limits.0 in
    record {
      few_aggs = few.0;
      few_clauses = few.1;
      aggs = limits.1;
      actions = upto_aggs.1;
      routines = upto_actions.1;
      main = upto_routines.1;
      slots = upto_main.1;
      rules = upto_slots.1;
      spawn = upto_rules.1;
      removal = all_but_removal.1;
    }
