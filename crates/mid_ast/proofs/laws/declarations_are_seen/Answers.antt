use Rattle.std.proofs.Common.{rules}
use Rattle.mid_ast.specs.declared.exp.MidDec.TheFolds
use Rattle.mid_ast.proofs.laws.declarations_are_seen.Goals as goal

pub returns : goal.returns
returns c = record { vals = λ bs. search (rules, TheFolds.the_lemmas); funs = λ bs. search (rules, TheFolds.the_lemmas); copies = λ new old. search (rules, TheFolds.the_lemmas) }
