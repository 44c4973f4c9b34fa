use Rattle.std.proofs.Common.{rules}
use Rattle.mid_ast.specs.declared.exp.MidDec.TheFolds
use Rattle.mid_ast.proofs.laws.places_are_not_seen.Goals as goal

pub returns : goal.returns
returns c = record { function = λ rs a b p. search (rules, TheFolds.the_lemmas); alike = λ rs a b p q. search (rules, TheFolds.the_lemmas) }
