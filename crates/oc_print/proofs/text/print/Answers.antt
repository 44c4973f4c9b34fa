use Rattle.std.proofs.Common.{ℕ, List, sym, subst, Result, Ok, Err}
use Rattle.std.specs.Prelude.{IfOk}
use Rattle.oc_ast.specs.View.{plain_text}
use Rattle.oc_rules.specs.Reads.{Reads}
use Rattle.oc_layout.proofs.Trees.{layout_reads}
use Rattle.oc_mirror.proofs.OneText.{one_text}
use Rattle.oc_print.proofs.text.print.Goals as goal

if_ok : {T E : Type 0} {P Q : T → Type 0} (r : Result T E) → IfOk r P → ((x : T) → P x → Q x) → IfOk r Q
if_ok (Ok x) h f = f x h
if_ok (Err e) h f = h

pub returns-clause-reads : goal.returns-clause-reads
returns-clause-reads c = if_ok c.laid_out.result c.laid_out.ensures (λ v e. subst (λ (bytes : List ℕ). Reads bytes (plain_text c.args.text.now)) (sym e) (layout_reads (plain_text c.args.text.now) c.requires))

pub returns-clause-alone : goal.returns-clause-alone
returns-clause-alone c = λ other. if_ok c.laid_out.result c.laid_out.ensures (λ v e r. one_text v.items other (plain_text c.args.text.now) r (subst (λ (bytes : List ℕ). Reads bytes (plain_text c.args.text.now)) (sym e) (layout_reads (plain_text c.args.text.now) c.requires)))
