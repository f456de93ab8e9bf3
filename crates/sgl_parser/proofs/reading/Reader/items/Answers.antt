use Rattle.std.proofs.Common.{◌<◌, ◌≡◌}
use Rattle.sgl_parser.proofs.Returns.{part_broken}
use Rattle.std.proofs.Common.{subst, length, arith}
use Rattle.sgl_parser.proofs.Sequences.{many_breaks, threads_none, threads_more}
use Rattle.sgl_parser.proofs.Parts.{goes_some}
use Rattle.sgl_parser.proofs.ItemStarts.{item_follows}
use Rattle.sgl_parser.proofs.Listings.{listing_more}
use Rattle.sgl_parser.specs.Shape.{kinds_of}
use Rattle.sgl_parser.specs.Scripts.{Listing, none, SpellsItem}
use Rattle.std.proofs.lemmas.Bool.Decides.{nat_tests}
use Rattle.std.proofs.lemmas.List.{nil_from_length}
use Rattle.sgl_parser.proofs.reading.Reader.items.Goals as goal

pub items-init : goal.items-init
items-init c = record { spelt = rw c.new-items.ensures none; threads = threads_none (kinds_of c.args.tokens.now); of = c.requires }

pub items-preserved : goal.items-preserved
items-preserved c =
    let some : 0 < length c.items.rest.now = grind (arith, nat_tests, c.is_empty.ensures, c.items-test.true) in
    record {
      spelt = rw c.in_ok-push.ensures.ok (listing_more c.items.invariant.spelt c.in_ok-item.ensures.spells);
      threads = threads_more item_follows c.items.invariant.threads (goes_some c.items.rest.now some) c.in_ok-item.ensures.passes;
      of = c.in_ok-item.ensures.of;
    }

pub returns-clause-spells : goal.returns-clause-spells
returns-clause-spells c =
    let empty : length c.items.rest.now ≡ 0 = grind (arith, nat_tests, c.is_empty.ensures, c.items-test.false) in
    subst (λ l. Listing (SpellsItem c.args.self.now.text.now) c.args.tokens.now l c.items.items) (nil_from_length c.items.rest.now empty) c.items.invariant.spelt

pub returns-in_err-item-clause-fails : goal.returns-in_err-item-clause-fails
returns-in_err-item-clause-fails c =
    let some : 0 < length c.items.rest.now = grind (arith, nat_tests, c.is_empty.ensures, c.items-test.true) in
    part_broken c.from_residual.result _ _ c.from_residual.ensures.1 (λ n f. many_breaks item_follows c.items.invariant.threads (goes_some c.items.rest.now some) n f) c.in_err-item.ensures
