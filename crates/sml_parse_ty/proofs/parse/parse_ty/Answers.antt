use Rattle.std.proofs.Common.{◌≤◌, ◌-◌, List, length, drop, sym, ap, subst, ◌∙◌, arith}
use Rattle.std.proofs.lemmas.List.{length-drop}
use Rattle.readers.specs.Given.{Fails}
use Rattle.sml_lex.specs.declared.token.Token.{Token}
use Rattle.sml_grammar.specs.ReadTypes.{ty_read}
use Rattle.sml_parse_ty.specs.Promise.{IsType}
use Rattle.sml_parse_ty.proofs.Steps.{ty_less}
use Rattle.sml_scan.proofs.Places.{slice_is}
use Rattle.sml_parse_ty.proofs.Whole.{found_type, only_type, fault_only, fault_right}
use Rattle.sml_parse_ty.proofs.parse.parse_ty.Goals as goal

pub overflow_sub-next : goal.overflow_sub-next
overflow_sub-next c =
    let l = ty_less c.args.room (drop c.args.at c.items-all.result.now) (c.in-Ok.found, c.in-Ok.rest.now) (ap (ty_read c.args.room) (sym (slice_is c.items-all.result.now c.args.at)) ∙ c.in-Ok.ensures) in
    omega (arith, length-drop c.args.at c.items-all.result.now)

pub returns-in-Ok-clause-found : goal.returns-in-Ok-clause-found
returns-in-Ok-clause-found c =
    let within : c.args.at ≤ length c.items-all.result.now = omega (arith, ap length c.items-all.ensures) in
    let P : List Token → Type 0 = λ z. IsType c.args.room z c.args.at c.in-Ok.found.0 (length c.items-all.result.now - length c.in-Ok.rest.now) in
    subst P c.items-all.ensures (found_type c.args.room c.items-all.result.now c.args.at c.in-Ok.found.0 c.in-Ok.found.1 c.in-Ok.rest.now within
    (ap (ty_read c.args.room) (sym (slice_is c.items-all.result.now c.args.at)) ∙ c.in-Ok.ensures))

pub returns-in-Ok-clause-only : goal.returns-in-Ok-clause-only
returns-in-Ok-clause-only c t next d st =
    let within : c.args.at ≤ length c.args.tokens.now = omega arith in
    rw c.items-all.ensures (only_type c.args.room c.args.tokens.now c.args.at c.in-Ok.found.0 c.in-Ok.found.1 c.in-Ok.rest.now within
    (ap (λ (z : List Token). ty_read c.args.room (drop c.args.at z)) (sym c.items-all.ensures) ∙ (ap (ty_read c.args.room) (sym (slice_is c.items-all.result.now c.args.at)) ∙ c.in-Ok.ensures)) t next d st)

pub returns-in-Err-clause-only : goal.returns-in-Err-clause-only
returns-in-Err-clause-only c t next d st =
    let P : List Token → Type 0 = λ z. Fails c.in-Err.error (ty_read c.args.room z) in
    let Q : List Token → Type 0 = λ z. Fails c.in-Err.error (ty_read c.args.room (drop c.args.at z)) in
    fault_only c.in-Err.error c.fault.result c.args.room c.args.tokens.now c.args.at c.fault.ensures (subst Q c.items-all.ensures (subst P (slice_is c.items-all.result.now c.args.at) c.in-Err.ensures)) t next d st

pub returns-in-Err-clause-refused : goal.returns-in-Err-clause-refused
returns-in-Err-clause-refused c =
    let P : List Token → Type 0 = λ z. Fails c.in-Err.error (ty_read c.args.room z) in
    let Q : List Token → Type 0 = λ z. Fails c.in-Err.error (ty_read c.args.room (drop c.args.at z)) in
    fault_right c.in-Err.error c.fault.result c.args.room c.args.tokens.now c.args.at c.requires.roomy c.fault.ensures (subst Q c.items-all.ensures (subst P (slice_is c.items-all.result.now c.args.at) c.in-Err.ensures))
