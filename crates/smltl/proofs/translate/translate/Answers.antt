use Rattle.std.proofs.Common.{◌≡◌, ◌+◌, List, ℕ, [], arith, sym, ◌∙◌, ap, subst, length, Bor, Err, get_or}
use Rattle.std.proofs.lemmas.List.{length-map}
use Rattle.src_io.specs.Reading.{IsRead}
use Rattle.src_io.specs.Written.{Appends, AppendsFront}
use Rattle.tl_text.specs.declared.fault.Refusal.{Refusal}
use Rattle.tl_session.specs.Answers.{IsFailure}
use Rattle.tl_session.specs.Kept.{Source}
use Rattle.tl_session.specs.Refused.{source_limit}
use Rattle.smltl.proofs.Translating.{stopped_at_first, rt_not_written, unit_not_written, unit_written, sources_taken, count_taken, read_before, same_files, not_error, name_at, missing_at, refused_at, all_translated, here_at}
use Rattle.smltl.proofs.translate.translate.Goals as goal

-- no name, which stands for one past the end
abbrev no_text : Bor (List ℕ)
no_text = record { ref_ptr = (0, 0); now = [] }

pub returns-in_default-clause-translated : goal.returns-in_default-clause-translated
returns-in_default-clause-translated g c = stopped_at_first _ _ _

pub returns-in_default-start-clause-translated : goal.returns-in_default-start-clause-translated
returns-in_default-start-clause-translated g c = stopped_at_first _ _ _

pub returns-in-Err-clause-translated : goal.returns-in-Err-clause-translated
returns-in-Err-clause-translated g c = rt_not_written _ _ _ _ c.deref.result.now (c.deref.ensures.value ∙ c.in-Ok-start.ensures) c.in-Err.ensures.failed.1

pub returns-in-Err-Missing-clause-translated : goal.returns-in-Err-Missing-clause-translated
returns-in-Err-Missing-clause-translated g c =
    let i = c.loop-at.invariant in
    missing_at _ _ _ c.loop-at.session _ _ c.loop-at.at _ i.translation i.sources i.count (name_at c.args.names.now c.loop-at.at no_text c.loop-at-test.true) i.kept
    (c.in-Err-Missing.ensures.missing (ap (λ e. Err e) c.in-Err-Missing.field-0-is)).0 i.out

pub returns-in-Err-Refused-clause-translated : goal.returns-in-Err-Refused-clause-translated
returns-in-Err-Refused-clause-translated g c =
    let i = c.loop-at.invariant in
    let read : IsRead (get_or c.args.names.now c.loop-at.at no_text).now source_limit (g.S.Sources.told c.loop-at.src) c.deref-in-loop-at.result.now =
    rw c.deref-in-loop-at.ensures.value c.in-Ok-read_named.ensures.found.0 in
    let fails = rw c.in-Err-Refused.field-0-is at c.in-Err-Refused.ensures.refused in
    let source : Source = record { name = (get_or c.args.names.now c.loop-at.at no_text).now; bytes = c.deref-in-loop-at.result.now } in
    let P : Refusal → Type 0 = λ r. IsFailure c.loop-at.session source r in
    refused_at _ _ _ c.loop-at.session _ _ c.loop-at.at _ c.deref-in-loop-at.result.now _ i.translation i.sources i.count (omega arith)
    (name_at c.args.names.now c.loop-at.at no_text c.loop-at-test.true) i.kept read (subst P (sym c.in-Err-Refused.refusal-is) fails) i.out

pub returns-in-Err-write_all-clause-translated : goal.returns-in-Err-write_all-clause-translated
returns-in-Err-write_all-clause-translated g c =
    let i = c.loop-at.invariant in
    let source : Source = record { name = (get_or c.args.names.now c.loop-at.at no_text).now; bytes = c.deref-in-loop-at.result.now } in
    let read : IsRead source.name source_limit (g.S.Sources.told c.loop-at.src) source.bytes = rw c.deref-in-loop-at.ensures.value c.in-Ok-read_named.ensures.found.0 in
    let text : List ℕ = c.in-Ok-add.unit.text in
    let P : List ℕ → Type 0 = λ l. AppendsFront (g.O.Sink.written c.loop-at.out) (g.O.Sink.written c.write_all-in-loop-at.new.sink) l in
    unit_not_written _ _ c.loop-at.session c.add.new.self source text c.in-Ok-add.unit.notes _ (g.O.Sink.written c.loop-at.out) _ i.translation
    (c.in-Ok-add.ensures.translation i.translation)
    (sources_taken _ _ c.loop-at.session c.add.new.self source text c.in-Ok-add.unit.notes (here_at _ _ _ _ i.count (name_at c.args.names.now c.loop-at.at no_text c.loop-at-test.true)) (read_before _ _ source.name source_limit source.bytes i.kept read) c.in-Ok-add.ensures.taken i.sources)
    c.in-Ok-add.ensures.taken i.out (subst P c.items.ensures c.in-Err-write_all.ensures.failed.1)

pub loop-at-preserved : goal.loop-at-preserved
loop-at-preserved g c =
    let i = c.loop-at.invariant in
    let source : Source = record { name = (get_or c.args.names.now c.loop-at.at no_text).now; bytes = c.deref-in-loop-at.result.now } in
    let read : IsRead source.name source_limit (g.S.Sources.told c.loop-at.src) source.bytes = rw c.deref-in-loop-at.ensures.value c.in-Ok-read_named.ensures.found.0 in
    let text : List ℕ = c.in-Ok-add.unit.text in
    let P : List ℕ → Type 0 = λ l. Appends (g.O.Sink.written c.loop-at.out) (g.O.Sink.written c.write_all-in-loop-at.new.sink) l in
    let whole = not_error _ c.in_default-write_all-2.not-Err c.write_all-in-loop-at.ensures.written in
    record {
      translation = c.in-Ok-add.ensures.translation i.translation;
      sources = sources_taken _ _ c.loop-at.session c.add.new.self source text c.in-Ok-add.unit.notes (here_at _ _ _ _ i.count (name_at c.args.names.now c.loop-at.at no_text c.loop-at-test.true)) (read_before _ _ source.name source_limit source.bytes i.kept read) c.in-Ok-add.ensures.taken i.sources;
      count = count_taken c.loop-at.session c.add.new.self source text c.in-Ok-add.unit.notes c.in-Ok-add.ensures.taken ∙ ap (λ n. n + 1) i.count;
      kept = same_files _ _ _ i.kept c.read_named.ensures.kept;
      out = unit_written c.loop-at.session c.add.new.self source text c.in-Ok-add.unit.notes _ (g.O.Sink.written c.loop-at.out) _ i.translation c.in-Ok-add.ensures.taken i.out (subst P c.items.ensures whole.1);
      read_count = c.in-Ok-read_named.ensures.found.1 ∙ i.read_count;
      write_count = whole.0 ∙ i.write_count;
    }

pub returns-clause-translated : goal.returns-clause-translated
returns-clause-translated g c =
    let i = c.loop-at.invariant in
    let all : c.loop-at.at ≡ length c.args.names.now = omega arith in
    all_translated _ _ c.loop-at.session _ _ c.loop-at.at i.translation i.sources i.count (all ∙ sym (length-map c.args.names.now (λ (n : Bor (List ℕ)). n.now))) i.out
