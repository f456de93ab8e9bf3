-- A batch with a word more is a batch.
use Rattle.effect_combine.proofs.Putting.{IsBatch-put}
use Rattle.effect_combine.proofs.batch.Batch.add_word.Goals as goal

pub invariant_of-self : goal.invariant_of-self
invariant_of-self c = (
  IsBatch-put c.self.inside.tags.items c.index-tag.result.now c.args.row c.args.attr c.args.word c.put_word.result c.self.inside.cells.items c.put_word.new.cells.items
      c.self.invariant.0 (rw (← c.self.view_is) at c.requires) c.put_word.ensures.few c.put_word.ensures.put,
  c.put_word.ensures.room,
)
