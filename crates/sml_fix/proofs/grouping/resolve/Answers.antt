use Rattle.std.proofs.Common.{◌≡◌, false, List, Ok, refl, sym, ap, subst, ◌∙◌, arith}
use Rattle.readers.specs.declared.floor.Floor.{Floor}
use Rattle.readers.specs.Given.{Fails}
use Rattle.readers.specs.Infix.{ground}
use Rattle.sml_fix.specs.declared.row.Cell.{Cell}
use Rattle.sml_fix.specs.Fixities as settings_of
use Rattle.sml_fix.specs.Reading.{group_read}
use Rattle.sml_fix.proofs.Whole.{read_all, only_this, fault_only, fault_right}
use Rattle.sml_fix.proofs.grouping.resolve.Goals as goal

pub returns-in-Ok-clause-found : goal.returns-in-Ok-clause-found
returns-in-Ok-clause-found c =
    let same = c.deref.ensures.value ∙ c.in_ok-cells.ensures in
    let read = subst (λ (w : List Cell). group_read 4096 false ground w ≡ Ok (c.in-Ok.grown, c.in-Ok.field-0-1.now)) same (ap (λ (n : Floor). group_read 4096 false n c.deref.result.now) (sym c.ground.ensures) ∙ c.in-Ok.ensures) in
    (c.in-Ok.grown, refl, 4096, read_all 4096 _ c.in-Ok.field-0-1.now c.in-Ok.grown read)

pub returns-in-Ok-clause-only : goal.returns-in-Ok-clause-only
returns-in-Ok-clause-only c g d =
    let same = c.deref.ensures.value ∙ c.in_ok-cells.ensures in
    let read = subst (λ (w : List Cell). group_read 4096 false ground w ≡ Ok (c.in-Ok.grown, c.in-Ok.field-0-1.now)) same (ap (λ (n : Floor). group_read 4096 false n c.deref.result.now) (sym c.ground.ensures) ∙ c.in-Ok.ensures) in
    only_this 4096 _ c.in-Ok.field-0-1.now c.in-Ok.grown g read d

pub returns-clause-only : goal.returns-clause-only
returns-clause-only c g d =
    let same = c.deref.ensures.value ∙ c.in_ok-cells.ensures in
    let read = subst (λ (w : List Cell). Fails c.in-Err.error (group_read 4096 false ground w)) same (subst (λ (n : Floor). Fails c.in-Err.error (group_read 4096 false n c.deref.result.now)) c.ground.ensures c.in-Err.ensures) in
    fault_only c.in-Err.error c.fault.result (settings_of.settings c.args.fix.now) c.args.row.now 4096 (omega arith) c.fault.ensures read g d

pub returns-clause-refused : goal.returns-clause-refused
returns-clause-refused c =
    let same = c.deref.ensures.value ∙ c.in_ok-cells.ensures in
    let read = subst (λ (w : List Cell). Fails c.in-Err.error (group_read 4096 false ground w)) same (subst (λ (n : Floor). Fails c.in-Err.error (group_read 4096 false n c.deref.result.now)) c.ground.ensures c.in-Err.ensures) in
    fault_right c.in-Err.error c.fault.result (settings_of.settings c.args.fix.now) c.args.row.now 4096 (omega arith) c.fault.ensures read
