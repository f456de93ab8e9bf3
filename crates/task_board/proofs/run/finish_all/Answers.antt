use Rattle.std.proofs.Common.{◌≡◌, ℕ, ◌++◌, List, length, vec_len, option_to_list, Option, ap, ◌∙◌, subst, arith}
use Rattle.sgl_values.specs.declared.fault.Tag.{Tag}
use Rattle.effect_board.specs.Rule.{Ends}
use Rattle.effect_board.specs.Handles.{view_of}
use Rattle.task_board.specs.declared.worker.Worker.{Worker}
use Rattle.task_scratch.specs.Job.{Job}
use Rattle.task_board.specs.Working.{IsGathering}
use Rattle.task_board.proofs.Claiming.{reached, told}
use Rattle.task_board.proofs.Workers.{parted}
use Rattle.task_board.proofs.run.finish_all.Goals as goal

pub gather-requires-clause-others : goal.gather-requires-clause-others
gather-requires-clause-others g c =
    (parted (g.T.Tasks.job c.args.tasks.now) c.args.board c.args.workers.items c.pop.new.self.items c.unwrap-first.result
    c.requires.workers (c.pop.ensures.items ∙ ap (λ (r : Option Worker). c.pop.new.self.items ++ option_to_list r) c.unwrap-first.ensures)).others

pub gather-requires-clause-later : goal.gather-requires-clause-later
gather-requires-clause-later g c =
    (parted (g.T.Tasks.job c.args.tasks.now) c.args.board c.args.workers.items c.pop.new.self.items c.unwrap-first.result
    c.requires.workers (c.pop.ensures.items ∙ ap (λ (r : Option Worker). c.pop.new.self.items ++ option_to_list r) c.unwrap-first.ensures)).later

pub gather-requires-clause-first : goal.gather-requires-clause-first
gather-requires-clause-first g c =
    let job : Job = g.T.Tasks.job c.args.tasks.now in
    let long : length c.pop.new.self.items ≡ vec_len c.pop.new.self = omega (arith, c.pop.new.self.ok) in
    subst (λ (n : ℕ). IsGathering job c.args.board n c.unwrap-first.result) long
    (parted job c.args.board c.args.workers.items c.pop.new.self.items c.unwrap-first.result
    c.requires.workers (c.pop.ensures.items ∙ ap (λ (r : Option Worker). c.pop.new.self.items ++ option_to_list r) c.unwrap-first.ensures)).first

pub returns : goal.returns
returns g c =
    let job : Job = g.T.Tasks.job c.args.tasks.now in
    let first = c.gather.ensures in
    let seat = c.gather.new.first.seat in
    let is = c.requires.board in
    let ends : Ends job.count job.rows job.tags (view_of seat) c.close.result
    = subst (λ (p : ℕ × ℕ × List Tag). Ends p.0 p.1 p.2 (view_of seat) c.close.result) (λ k. (is.tasks k, is.rows k, is.tags k)) c.close.ensures in
    record {
      totals = told job c.close.result (view_of seat) c.gather.new.first.summary ends first.missed first.holds.tells;
      reaches = reached job c.close.result (view_of seat) c.gather.new.first.summary c.gather.new.first.scratch.room.reach.items ends first.missed first.holds.reaches;
    }
