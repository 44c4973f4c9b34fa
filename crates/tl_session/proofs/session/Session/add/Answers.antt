use Rattle.std.proofs.Common.{◌≡◌, ℕ, List, ◌+◌, ◌∙◌, ap, arith, length}
use Rattle.std.proofs.lemmas.Result.{err_from_is_err_and}
use Rattle.sml_fix.specs.Fixities.{settings}
use Rattle.tl_text.specs.declared.fault.Fault.{Fault}
use Rattle.built_items.specs.Built.{IfRefused}
use Rattle.built_items.specs.declared.item.SourceItem.{SourceItem}
use Rattle.oc_layout.specs.Layout.{Layout}
use Rattle.tl_session.specs.Kept.{Source}
use Rattle.tl_session.specs.Sessions.{source_of}
use Rattle.tl_session.specs.Written.{base_of, unit_tree}
use Rattle.tl_session.specs.declared.session.Accepted.{Accepted}
use Rattle.tl_session.proofs.BuiltItems.{items_lawful-same}
use Rattle.tl_session.proofs.Translation.{is_lawful}
use Rattle.tl_session.proofs.SessionLemmas.{IsNext, is_next, kept_after, next_fails, next_refused, taken_after, translation_after}
use Rattle.tl_session.proofs.session.Session.add.Goals as goal

pub returns-in_err-items-clause-refused : goal.returns-in_err-items-clause-refused
returns-in_err-items-clause-refused c =
    let s : Source = record { name = c.args.name.now; bytes = c.args.bytes.now } in
    let n : IsNext c.self.inside.accepted c.items.result.now c.args.self.now (settings c.self.inside.fix) s =
    is_next c.self.inside.accepted c.items.result.now c.args.self.now (settings c.self.inside.fix) s c.self.inside.total
    c.self.view_is c.items.ensures c.self.invariant (omega arith) c.if-self-bytes-gt-TOTAL_LIMIT.false
    in
    let p = err_from_is_err_and c.from_residual.result c.from_residual.ensures.1 in
    rw (p.1, p.2) (next_refused c.self.inside.accepted c.items.result.now c.args.self.now (settings c.self.inside.fix) s n c.in_err-items.field-0.0 c.in_err-items.ensures.refused)

pub returns-in_err-items-clause-fails : goal.returns-in_err-items-clause-fails
returns-in_err-items-clause-fails c = λ refusal.
    let s : Source = record { name = c.args.name.now; bytes = c.args.bytes.now } in
    let n : IsNext c.self.inside.accepted c.items.result.now c.args.self.now (settings c.self.inside.fix) s =
    is_next c.self.inside.accepted c.items.result.now c.args.self.now (settings c.self.inside.fix) s c.self.inside.total
    c.self.view_is c.items.ensures c.self.invariant (omega arith) c.if-self-bytes-gt-TOTAL_LIMIT.false
    in
    let e : Fault = c.in_err-items.field-0.0 in
    let p = err_from_is_err_and c.from_residual.result c.from_residual.ensures.1 in
    rw (p.1, p.2) (next_fails c.self.inside.accepted c.items.result.now c.args.self.now (settings c.self.inside.fix) s n
    (λ place code. IfRefused e (λ r. r ≡ record { place = place; code = code })) c.in_err-items.ensures.fails refusal.place refusal.code)

pub unit_text-requires : goal.unit_text-requires
unit_text-requires c =
    items_lawful-same _ c.in_ok-items.items c.items-2.ensures
    (is_lawful (length c.items.result.now + 1) (settings c.self.inside.fix) (settings c.in_ok-items.left) c.args.bytes.now c.in_ok-items.items c.in_ok-items.ensures.found)

pub invariant_of-self-2 : goal.invariant_of-self-2
invariant_of-self-2 c =
    let s : Source = record { name = c.args.name.now; bytes = c.args.bytes.now } in
    let n : IsNext c.self.inside.accepted c.items.result.now c.args.self.now (settings c.self.inside.fix) s =
    is_next c.self.inside.accepted c.items.result.now c.args.self.now (settings c.self.inside.fix) s c.self.inside.total
    c.self.view_is c.items.ensures c.self.invariant (omega arith) c.if-self-bytes-gt-TOTAL_LIMIT.false
    in
    kept_after c.self.inside.accepted c.items.result.now c.push.new.self c.args.self.now (settings c.self.inside.fix) (settings c.in_ok-items.left) s
    c.in_ok-source.source c.in_ok-items.items n c.in_ok-items.ensures.found (ap source_of c.in_ok-source.ensures) (ap (λ (a : Accepted). a.program) c.in_ok-source.ensures) c.in_ok-push.ensures.ok
    c.self.inside.total c.self.invariant c.if-self-bytes-gt-TOTAL_LIMIT.false c.in_ok-items.ensures.only

pub returns-clause-taken : goal.returns-clause-taken
returns-clause-taken c =
    let s : Source = record { name = c.args.name.now; bytes = c.args.bytes.now } in
    let n : IsNext c.self.inside.accepted c.items.result.now c.args.self.now (settings c.self.inside.fix) s =
    is_next c.self.inside.accepted c.items.result.now c.args.self.now (settings c.self.inside.fix) s c.self.inside.total
    c.self.view_is c.items.ensures c.self.invariant (omega arith) c.if-self-bytes-gt-TOTAL_LIMIT.false
    in
    let tree : List SourceItem → List ℕ = λ items. Layout (unit_tree (length c.items.result.now + 1) (base_of c.args.name.now) items) in
    taken_after c.self.inside.accepted c.items.result.now c.push.new.self c.args.self.now (settings c.self.inside.fix) (settings c.in_ok-items.left) s
    c.in_ok-source.source c.in_ok-items.items n c.in_ok-items.ensures.found (ap source_of c.in_ok-source.ensures) (ap (λ (a : Accepted). a.program) c.in_ok-source.ensures) c.in_ok-push.ensures.ok
    c.from_vec.result c.new.result (c.from_vec.ensures ∙ c.in_ok-text.ensures ∙ ap tree c.items-2.ensures) c.new.ensures

pub returns-clause-translation : goal.returns-clause-translation
returns-clause-translation c =
    let s : Source = record { name = c.args.name.now; bytes = c.args.bytes.now } in
    let n : IsNext c.self.inside.accepted c.items.result.now c.args.self.now (settings c.self.inside.fix) s =
    is_next c.self.inside.accepted c.items.result.now c.args.self.now (settings c.self.inside.fix) s c.self.inside.total
    c.self.view_is c.items.ensures c.self.invariant (omega arith) c.if-self-bytes-gt-TOTAL_LIMIT.false
    in
    translation_after c.self.inside.accepted c.items.result.now c.push.new.self c.args.self.now (settings c.self.inside.fix) (settings c.in_ok-items.left) s
    c.in_ok-source.source c.in_ok-items.items n c.in_ok-items.ensures.found (ap source_of c.in_ok-source.ensures) (ap (λ (a : Accepted). a.program) c.in_ok-source.ensures) c.in_ok-push.ensures.ok
    c.in_ok-items.ensures.fails c.requires

pub returns-clause-fails : goal.returns-clause-fails
returns-clause-fails c = λ refusal.
    let s : Source = record { name = c.args.name.now; bytes = c.args.bytes.now } in
    let n : IsNext c.self.inside.accepted c.items.result.now c.args.self.now (settings c.self.inside.fix) s =
    is_next c.self.inside.accepted c.items.result.now c.args.self.now (settings c.self.inside.fix) s c.self.inside.total
    c.self.view_is c.items.ensures c.self.invariant (omega arith) c.if-self-bytes-gt-TOTAL_LIMIT.false
    in
    next_fails c.self.inside.accepted c.items.result.now c.args.self.now (settings c.self.inside.fix) s n (λ place code. ⊥) c.in_ok-items.ensures.fails refusal.place refusal.code
