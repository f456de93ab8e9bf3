use Rattle.std.proofs.Common.{Some}
use Rattle.std.specs.Prelude.{string_bytes}
use Rattle.std.proofs.lemmas.Map.Text.{hash_map_updates_text}
use Rattle.sgl_types.proofs.names.set_place.Goals as goal

pub returns-clause-ok : goal.returns-clause-ok
returns-clause-ok c = λ q. hash_map_updates_text (string_bytes c.args.name) c.args.index.now c.insert.new.self (Some c.args.at) c.in_ok-insert.ensures.updates q
