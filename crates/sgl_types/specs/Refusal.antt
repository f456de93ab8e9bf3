-- What a refusal names.
use Rattle.std.specs.Prelude.{List}
use Rattle.sgl_types.specs.declared.finding.Finding.{Finding}
use Rattle.sgl_types.specs.declared.type_fault.TypeFault.{TypeFault}
use Rattle.sgl_types.specs.declared.type_fault.TypeFault.TheVariants.{At, Memory}
use Rattle.sgl_types.specs.Findings.{finding, IsFirst}

-- the first of these; want of memory names none
abbrev pub IsRefusal : List Finding → TypeFault → Type 0
IsRefusal faults (At kind place) = IsFirst (finding kind place) faults
IsRefusal faults Memory = Unit {0}
