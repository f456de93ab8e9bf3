-- A script is shared as its parts are.
use denote.Struct.Declared.{shape}
use denote.Param.Send.{struct_sync, sendable}
use Rattle.std.proofs.option.Option.TheSendSync as options
use Rattle.sgl_values.proofs.list.List.TheSendSync as lists
use Rattle.sgl_typed.proofs.schema.Schema.TheSendSync as schemas
use Rattle.sgl_typed.specs.contracts.script.TScript.{the_type}
use Rattle.sgl_typed.proofs.law.scripts_are_shared.Goals as goal

pub shared-requires-sync-T : goal.shared-requires-sync-T
shared-requires-sync-T c κs = record {
  shared = λ d b o κ.
      (struct_sync (shape the_type) (
        schemas.the_field_sync,
        (
          lists.the_sync _ c.aggs_are_shared.ensures,
          (
            lists.the_sync _ c.actions_are_shared.ensures,
            (
              lists.the_sync _ c.routines_are_shared.ensures,
              (
                lists.the_sync _ c.statements_are_shared.ensures,
                (
                  search sendable,
                  (
                    lists.the_sync _ c.rules_are_shared.ensures,
                    (
                      options.the_field_sync _ c.spawns_are_shared.ensures,
                      (options.the_field_sync _ c.exprs_are_shared.ensures, tt),
                    ),
                  ),
                ),
              ),
            ),
          ),
        ),
      )).shared (the_type.to d) b o κ;
}
