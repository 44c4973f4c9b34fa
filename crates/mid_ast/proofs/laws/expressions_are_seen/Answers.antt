use Rattle.std.proofs.Common.{rules}
use Rattle.mid_ast.specs.declared.exp.MidDec.TheFolds
use Rattle.mid_ast.proofs.laws.expressions_are_seen.Goals as goal

pub returns : goal.returns
returns c = record { applied = λ f a. search (rules, TheFolds.the_lemmas); tuple = λ es. search (rules, TheFolds.the_lemmas); handled = λ a rs. search (rules, TheFolds.the_lemmas); local = λ ds a. search (rules, TheFolds.the_lemmas) }
