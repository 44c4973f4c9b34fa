use Rattle.std.proofs.Common.{rules}
use Rattle.mid_ast.specs.declared.item.MidItem.TheFolds
use Rattle.mid_ast.proofs.laws.structures_are_seen.Goals as goal

pub returns : goal.returns
returns c = record { named = λ x m. search (rules, TheFolds.the_lemmas); body = λ is. search (rules, TheFolds.the_lemmas) }
