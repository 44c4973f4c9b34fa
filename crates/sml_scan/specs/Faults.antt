-- A refused token as a fault.
use Rattle.std.specs.Prelude.{◌≡◌, List, [], ◌∷◌, Result, Ok, Err}
use Rattle.tl_text.specs.declared.place.Place.{Place}
use Rattle.tl_text.specs.declared.code.Code.{Code}
use Rattle.tl_text.specs.declared.code.Code.TheVariants as code
use Rattle.tl_text.specs.declared.fault.Fault.{Fault}
use Rattle.tl_text.specs.declared.fault.Fault.TheVariants as fault
use Rattle.readers.specs.declared.code.Code.{Code as Cause}
use Rattle.readers.specs.declared.code.Code.TheVariants as cause
use Rattle.readers.specs.declared.fault.ReadError.{ReadError}
use Rattle.readers.specs.declared.fault.ReadError.TheVariants as errors
use Rattle.sml_lex.specs.declared.token.Token.{Token}

abbrev pub named : Cause → Code
named cause.Grammar = code.Grammar
named cause.Depth = code.Depth
named cause.FixityClash = code.FixityClash

-- at the end, where no token is left to name, it is one of memory
abbrev pub fault_at : Cause → List Token → Fault
fault_at c [] = fault.NoMemory (record {})
fault_at c (t ∷ rest) = fault.Refused (record { place = t.place; code = named c })

abbrev pub FaultOf : ReadError Token → Fault → Type 0
FaultOf errors.NoMemory f = f ≡ fault.NoMemory (record {})
FaultOf (errors.Refused c rest) f = f ≡ fault_at c rest.now

-- a refusal is of such a place with such a code
abbrev pub RefusesAs : {T : Type 0} → (Place → Code → Type 0) → Result T Fault → Type 0
RefusesAs P (Ok x) = Unit {0}
RefusesAs P (Err (fault.NoMemory e)) = Unit {0}
RefusesAs P (Err (fault.Refused r)) = P r.place r.code
