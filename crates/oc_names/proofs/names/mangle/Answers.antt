use Rattle.std.proofs.Common.{◌≡◌, ℕ, List, true, sym, subst, ◌∙◌, Result, Ok, Err}
use Rattle.std.specs.Prelude.{IfOk}
use Rattle.oc_names.specs.Mangled.{lawful}
use Rattle.oc_names.proofs.Spellings.{is_lawful, one_name}
use Rattle.oc_names.proofs.names.mangle.Goals as goal

if_ok : {T E : Type 0} {P Q : T → Type 0} (r : Result T E) → IfOk r P → ((x : T) → P x → Q x) → IfOk r Q
if_ok (Ok x) h f = f x h
if_ok (Err e) h f = h

pub returns-clause-lawful : goal.returns-clause-lawful
returns-clause-lawful c = if_ok c.mangled.result c.mangled.ensures (λ n e. subst (λ (z : List ℕ). lawful c.args.kind z ≡ true) (sym e) (is_lawful c.args.kind c.args.name.now c.requires))

pub returns-clause-injective : goal.returns-clause-injective
returns-clause-injective c = λ other may. if_ok c.mangled.result c.mangled.ensures (λ n e f. one_name c.args.kind other c.args.name.now may c.requires (sym f ∙ e))
