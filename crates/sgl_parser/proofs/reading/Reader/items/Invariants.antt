use Rattle.std.proofs.Common.{length}
use Rattle.sgl_lexer.specs.Slices.{AreSlicesOf}
use Rattle.sgl_parser.specs.Breaks.{AtEnd}
use Rattle.sgl_parser.specs.ItemShape.{ItemShape}
use Rattle.sgl_parser.specs.Scripts.{Listing, SpellsItem}
use Rattle.sgl_parser.specs.Shape.{kinds_of}
use Rattle.sgl_parser.proofs.Sequences.{Threads}
use Rattle.sgl_parser.proofs.reading.Reader.items.Given as goal

-- the items that were read so far
abbrev pub invariant-items : goal.invariant-items
invariant-items l = record {
  spelt : Listing (SpellsItem l.self.text.now) l.tokens l.rest l.items;
  threads : Threads ItemShape AtEnd (kinds_of l.tokens) (kinds_of l.rest);
  of : AreSlicesOf l.self.text.now l.rest;
}

abbrev pub decreases-items : goal.decreases-items
decreases-items l = length l.rest
