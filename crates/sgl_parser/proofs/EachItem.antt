-- What holds of the items of each kind holds of every item.
use Rattle.std.proofs.Common.{ℕ, List}
use Rattle.sgl_values.specs.declared.place.Place.{Place}
use Rattle.sgl_tree.specs.declared.item.Item.{Item}
use Rattle.sgl_lexer.specs.declared.lexeme.Token.{Token}
use Rattle.sgl_lexer.specs.declared.vocabulary.Word.{Word}
use Rattle.sgl_lexer.specs.declared.vocabulary.Word.TheVariants as words
use Rattle.sgl_parser.specs.Scripts.{SpellsAttribute, SpellsAggregate, SpellsAction, SpellsRoutine, SpellsMain, SpellsPost, SpellsBody}

-- It holds of what stands behind each word that begins an item.
pub record OfEach (text : List ℕ) (P : Word → List Token → List Token → Type 0) : Type 0 where
  pub attribute : (ts us : List Token) (x : Item) → SpellsAttribute text ts us x → P words.Attr ts us
  pub aggregate : (ts us : List Token) (x : Item) → SpellsAggregate text ts us x → P words.Aggregate ts us
  pub action : (ts us : List Token) (x : Item) → SpellsAction text ts us x → P words.Action ts us
  pub routine : (ts us : List Token) (x : Item) → SpellsRoutine text ts us x → P words.Routine ts us
  pub main : (place : Place) (ts us : List Token) (x : Item) → SpellsMain text place ts us x → P words.Main ts us
  pub post : (place : Place) (ts us : List Token) (x : Item) → SpellsPost text place ts us x → P words.Post ts us

pub of_body : (text : List ℕ) (P : Word → List Token → List Token → Type 0) → OfEach text P → (w : Word) (place : Place) (ts us : List Token) (x : Item) → SpellsBody text w place ts us x → P w ts us
of_body text P each words.Attr place ts us x q = each.attribute ts us x q
of_body text P each words.Aggregate place ts us x q = each.aggregate ts us x q
of_body text P each words.Action place ts us x q = each.action ts us x q
of_body text P each words.Routine place ts us x q = each.routine ts us x q
of_body text P each words.Main place ts us x q = each.main place ts us x q
of_body text P each words.Post place ts us x q = each.post place ts us x q
of_body text P each _ place ts us x q = absurd q
