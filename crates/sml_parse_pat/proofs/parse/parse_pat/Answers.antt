use Rattle.std.proofs.Common.{◌≤◌, ◌-◌, false, List, length, drop, sym, ap, subst, ◌∙◌, arith}
use Rattle.std.proofs.lemmas.List.{length-drop}
use Rattle.readers.specs.Given.{Fails}
use Rattle.sml_lex.specs.declared.token.Token.{Token}
use Rattle.sml_fix.specs.Fixities.{settings}
use Rattle.sml_grammar.specs.ReadPats.{pat_read}
use Rattle.sml_scan.proofs.Places.{slice_is}
use Rattle.sml_parse_pat.specs.Promise.{IsPat}
use Rattle.sml_parse_pat.proofs.Steps.{pat_less}
use Rattle.sml_parse_pat.proofs.Whole.{found_pat, only_pat, fault_only, fault_right}
use Rattle.sml_parse_pat.proofs.parse.parse_pat.Goals as goal

pub overflow_sub-next : goal.overflow_sub-next
overflow_sub-next c =
    let l = pat_less (settings c.args.fix.now) c.args.room (drop c.args.at c.items-all.result.now) (c.in-Ok.found, c.in-Ok.rest.now) (ap (pat_read c.args.room false (settings c.args.fix.now)) (sym (slice_is c.items-all.result.now c.args.at)) ∙ c.in-Ok.ensures) in
    omega (arith, length-drop c.args.at c.items-all.result.now)

pub returns-in-Ok-clause-found : goal.returns-in-Ok-clause-found
returns-in-Ok-clause-found c =
    let within : c.args.at ≤ length c.items-all.result.now = omega (arith, ap length c.items-all.ensures) in
    let P : List Token → Type 0 = λ z. IsPat (settings c.args.fix.now) c.args.room z c.args.at c.in-Ok.found.0 (length c.items-all.result.now - length c.in-Ok.rest.now) in
    subst P c.items-all.ensures (found_pat (settings c.args.fix.now) c.args.room c.items-all.result.now c.args.at c.in-Ok.found.0 c.in-Ok.found.1 c.in-Ok.rest.now c.requires.roomy within
    (ap (pat_read c.args.room false (settings c.args.fix.now)) (sym (slice_is c.items-all.result.now c.args.at)) ∙ c.in-Ok.ensures))

pub returns-in-Ok-clause-only : goal.returns-in-Ok-clause-only
returns-in-Ok-clause-only c t next d st =
    let within : c.args.at ≤ length c.args.tokens.now = omega arith in
    rw c.items-all.ensures (only_pat (settings c.args.fix.now) c.args.room c.args.tokens.now c.args.at c.in-Ok.found.0 c.in-Ok.found.1 c.in-Ok.rest.now within
    (ap (λ (z : List Token). pat_read c.args.room false (settings c.args.fix.now) (drop c.args.at z)) (sym c.items-all.ensures) ∙ (ap (pat_read c.args.room false (settings c.args.fix.now)) (sym (slice_is c.items-all.result.now c.args.at)) ∙ c.in-Ok.ensures)) t next d st)

pub returns-in-Err-clause-only : goal.returns-in-Err-clause-only
returns-in-Err-clause-only c t next d st =
    let P : List Token → Type 0 = λ z. Fails c.in-Err.error (pat_read c.args.room false (settings c.args.fix.now) z) in
    let Q : List Token → Type 0 = λ z. Fails c.in-Err.error (pat_read c.args.room false (settings c.args.fix.now) (drop c.args.at z)) in
    fault_only (settings c.args.fix.now) c.args.room c.args.tokens.now c.args.at c.in-Err.error c.fault.result c.fault.ensures (subst Q c.items-all.ensures (subst P (slice_is c.items-all.result.now c.args.at) c.in-Err.ensures)) t next d st

pub returns-in-Err-clause-refused : goal.returns-in-Err-clause-refused
returns-in-Err-clause-refused c =
    let P : List Token → Type 0 = λ z. Fails c.in-Err.error (pat_read c.args.room false (settings c.args.fix.now) z) in
    let Q : List Token → Type 0 = λ z. Fails c.in-Err.error (pat_read c.args.room false (settings c.args.fix.now) (drop c.args.at z)) in
    fault_right (settings c.args.fix.now) c.args.room c.args.tokens.now c.args.at c.in-Err.error c.fault.result c.requires.roomy c.fault.ensures (subst Q c.items-all.ensures (subst P (slice_is c.items-all.result.now c.args.at) c.in-Err.ensures))
