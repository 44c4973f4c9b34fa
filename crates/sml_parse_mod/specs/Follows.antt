-- What is done, with what was read behind it.
use Rattle.std.specs.Prelude.{Option, Some, Ok, Err}
use Rattle.sml_parse_mod.specs.Nested.{Read}

abbrev pub after : {S N : Type 0} → S → Read N → Read (Option S × N)
after d (Ok x) = Ok ((Some d, x.0), x.1)
after d (Err e) = Err e
