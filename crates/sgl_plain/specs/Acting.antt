-- What a unit that acts may read.
use Rattle.std.specs.Prelude.{List}
use Rattle.sgl_values.specs.declared.fault.Val.{Val}
use Rattle.sgl_typed.specs.Value.{Context}
use Rattle.sgl_evaluate.specs.Frame.{context_of}
use Rattle.sgl_evaluate.specs.declared.frame.Frame.{Frame}

-- the context of its statements with these slots
abbrev pub acting_context : Frame → List Val → Context
acting_context f slots = record (context_of f) { slots = slots }
