-- A function that divides where it may.
use Rattle.std.specs.Prelude.{codes}
use Rattle.run_types.specs.Types.{ConsT, Given, NilT, TArr, TInt, TTup}
use Rattle.runs.specs.Examples.{int, name}
use Rattle.runs.specs.Forms.{choice, infix_of, var}
use Rattle.runs.specs.Primitives.{false_part, true_part}
use Rattle.runs.specs.Tree.{Arith, Clo, Compare, Divide, Equal, Exp, PCon, PMore, PNil, PTup, PVar, Rule, Rules, Stop, Stuck, Val}

-- if b = 0 then 0 else a / b
abbrev pub quotient_body : Exp
quotient_body = choice (infix_of (Compare Equal) (name (codes "b")) (int 0)) (int 0) (infix_of (Arith Divide) (name (codes "a")) (name (codes "b")))

-- the rules of its test
abbrev pub quotient_rules : Rules
quotient_rules = Rule (PCon true_part PNil) (int 0) (Rule (PCon false_part PNil) (infix_of (Arith Divide) (name (codes "a")) (name (codes "b"))) Stop)

-- fun (a, b) -> if b = 0 then 0 else a / b
abbrev pub quotient : Val
quotient = Clo Stuck (Rule (PTup (PMore (PVar (var (codes "a"))) (PMore (PVar (var (codes "b"))) PNil))) quotient_body Stop)

-- at int * int -> int
abbrev pub quotient_given : Given
quotient_given = record { value = quotient; type = TArr (TTup (ConsT TInt (ConsT TInt NilT))) TInt }
