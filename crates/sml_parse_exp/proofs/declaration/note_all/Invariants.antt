use Rattle.std.proofs.Common.{◌≡◌, ◌++◌, drop, map}
use Rattle.sml_parse_exp.proofs.declaration.note_all.Given as goal

abbrev pub invariant-loop-name : goal.invariant-loop-name
invariant-loop-name l = l.scope ++ map (λ v. (v.1, l.fixity)) (drop l.name-index l.names) ≡ l.fn.scope ++ map (λ v. (v.1, l.fixity)) l.names
