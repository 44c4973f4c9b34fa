use Rattle.std.proofs.Common.{◌≤◌, ◌<◌, List, ℕ, arith, ap, length, map, Bor, Err}
use Rattle.std.specs.Prelude.{vec_len}
use Rattle.smltl.proofs.Running.{bad_words, no_list, list_unread, list_no_memory, bad_list, bad_list_counts, all_done, name_missing, source_refused, source_unread, unit_unwritten, names_no_memory, missing_low, refused_low, named_seen, low_seen, place_seen, read_seen, listed_seen}
use Rattle.smltl.proofs.run.run.Goals as goal

-- the names of a row of references
abbrev named : List (Bor (List ℕ)) → List (List ℕ)
named seen = map (λ (n : Bor (List ℕ)). n.now) seen

pub returns-in_default-clause-outcome : goal.returns-in_default-clause-outcome
returns-in_default-clause-outcome g c = bad_words _ _ _ _ _ _ _ _ c.in_default.ensures.none c.tell.ensures

pub returns-in-Err-Missing-clause-outcome : goal.returns-in-Err-Missing-clause-outcome
returns-in-Err-Missing-clause-outcome g c =
    no_list _ _ c.in-Some.list.now _ _ _ _ _ _ c.in-Some.ensures.command (c.in-Err-Missing.ensures.missing (ap (λ e. Err e) c.in-Err-Missing.field-0-is)).0 c.tell_missing.ensures

pub returns-in-Err-Failed-clause-outcome : goal.returns-in-Err-Failed-clause-outcome
returns-in-Err-Failed-clause-outcome g c = list_unread _ _ c.in-Some.list.now _ _ _ _ _ _ c.in-Some.ensures.command c.tell-in-Err-Failed.ensures

pub returns-in-Err-NoMemory-clause-outcome : goal.returns-in-Err-NoMemory-clause-outcome
returns-in-Err-NoMemory-clause-outcome g c = list_no_memory _ _ c.in-Some.list.now _ _ _ _ _ _ c.in-Some.ensures.command c.tell_no_memory.ensures

pub returns-in-Err-Bad-clause-outcome : goal.returns-in-Err-Bad-clause-outcome
returns-in-Err-Bad-clause-outcome g c =
    bad_list _ _ c.in-Some.list.now c.deref.result.now c.in-Err-Bad.line _ _ _ _ _ _ c.in-Some.ensures.command
    (read_seen _ _ _ _ c.deref.ensures.value c.in-Ok.ensures.found.0) (c.in-Err-Bad.ensures.bad _ (ap (λ e. Err e) c.in-Err-Bad.field-0-is)) c.tell_bad_list.ensures

pub returns-in-Err-Bad-clause-counts : goal.returns-in-Err-Bad-clause-counts
returns-in-Err-Bad-clause-counts g c = bad_list_counts _ _ _ _ _ _ _ _ _ _ c.in-Ok.ensures.found.1 c.tell_bad_list.ensures

pub returns-in-Err-NoMemory-names_in-clause-outcome :
    goal.returns-in-Err-NoMemory-names_in-clause-outcome
returns-in-Err-NoMemory-names_in-clause-outcome g c =
    list_no_memory _ _ c.in-Some.list.now _ _ _ _ _ _ c.in-Some.ensures.command c.tell_no_memory-in-Err-NoMemory-names_in.ensures

pub returns-in-Ok-translate-clause-outcome : goal.returns-in-Ok-translate-clause-outcome
returns-in-Ok-translate-clause-outcome g c =
    all_done _ _ _ c.in-Some.list.now c.deref.result.now (named c.deref-2.result.now) c.in-Ok-translate.field-0 _ _ _
    c.in-Some.ensures.command (read_seen _ _ _ _ c.deref.ensures.value c.in-Ok.ensures.found.0)
    (listed_seen _ _ _ c.deref-2.ensures.value c.in-Ok-names_in.ensures.listed) c.read_named.ensures.kept c.in-Ok-translate.ensures.translated

pub index-requires : goal.index-requires
index-requires g c =
    let low = place_seen c.deref-2.result.now c.in-Err-Missing-translate.at (missing_low _ (named c.deref-2.result.now) _ _ _ _ c.in-Err-Missing-translate.field-0-is c.in-Err-Missing-translate.ensures.translated) in
    let len = c.deref-2.ensures.len in
    omega arith

pub overflow_cast-at : goal.overflow_cast-at
overflow_cast-at g c =
    let low = place_seen c.deref-2.result.now c.in-Err-Missing-translate.at (missing_low _ (named c.deref-2.result.now) _ _ _ _ c.in-Err-Missing-translate.field-0-is c.in-Err-Missing-translate.ensures.translated) in
    let len = c.deref-2.ensures.len in
    let few : vec_len c.in-Ok-names_in.names ≤ 4096 = c.in-Ok-names_in.ensures.few in
    omega arith

pub overflow_add-at : goal.overflow_add-at
overflow_add-at g c =
    let low = place_seen c.deref-2.result.now c.in-Err-Missing-translate.at (missing_low _ (named c.deref-2.result.now) _ _ _ _ c.in-Err-Missing-translate.field-0-is c.in-Err-Missing-translate.ensures.translated) in
    let len = c.deref-2.ensures.len in
    let few : vec_len c.in-Ok-names_in.names ≤ 4096 = c.in-Ok-names_in.ensures.few in
    omega arith

pub returns-in-Err-Missing-translate-clause-outcome :
    goal.returns-in-Err-Missing-translate-clause-outcome
returns-in-Err-Missing-translate-clause-outcome g c =
    let low : c.in-Err-Missing-translate.at < length c.in-Ok-names_in.names.items =
    low_seen _ _ _ c.deref-2.ensures.value (missing_low _ (named c.deref-2.result.now) _ _ _ _ c.in-Err-Missing-translate.field-0-is c.in-Err-Missing-translate.ensures.translated) in
    name_missing _ _ _ c.in-Some.list.now c.deref.result.now (named c.deref-2.result.now) _ c.in-Err-Missing-translate.at _ c.index.result.now.now _ _ _ _ _ _
    c.in-Some.ensures.command (read_seen _ _ _ _ c.deref.ensures.value c.in-Ok.ensures.found.0)
    (listed_seen _ _ _ c.deref-2.ensures.value c.in-Ok-names_in.ensures.listed) c.read_named.ensures.kept c.in-Err-Missing-translate.field-0-is
    c.in-Err-Missing-translate.ensures.translated (named_seen _ _ _ c.index.result.now c.deref-2.ensures.value low c.index.ensures)
    c.tell_missing-in-Err-Missing-translate.ensures

pub index-requires-in-Err-Refused : goal.index-requires-in-Err-Refused
index-requires-in-Err-Refused g c =
    let low = place_seen c.deref-2.result.now c.in-Err-Refused.at (refused_low _ (named c.deref-2.result.now) _ _ _ _ _ c.in-Err-Refused.field-0-is c.in-Err-Refused.ensures.translated) in
    let len = c.deref-2.ensures.len in
    omega arith

pub returns-in-Err-Refused-clause-outcome : goal.returns-in-Err-Refused-clause-outcome
returns-in-Err-Refused-clause-outcome g c =
    let low : c.in-Err-Refused.at < length c.in-Ok-names_in.names.items =
    low_seen _ _ _ c.deref-2.ensures.value (refused_low _ (named c.deref-2.result.now) _ _ _ _ _ c.in-Err-Refused.field-0-is c.in-Err-Refused.ensures.translated) in
    source_refused _ _ _ c.in-Some.list.now c.deref.result.now (named c.deref-2.result.now) _ c.in-Err-Refused.at c.in-Err-Refused.refusal _ c.index-in-Err-Refused.result.now.now _ _ _ _ _ _
    c.in-Some.ensures.command (read_seen _ _ _ _ c.deref.ensures.value c.in-Ok.ensures.found.0)
    (listed_seen _ _ _ c.deref-2.ensures.value c.in-Ok-names_in.ensures.listed) c.read_named.ensures.kept c.in-Err-Refused.field-0-is
    c.in-Err-Refused.ensures.translated (named_seen _ _ _ c.index-in-Err-Refused.result.now c.deref-2.ensures.value low c.index-in-Err-Refused.ensures)
    c.tell_refused.ensures

pub returns-in-Err-Reading-clause-outcome : goal.returns-in-Err-Reading-clause-outcome
returns-in-Err-Reading-clause-outcome g c =
    source_unread _ _ _ c.in-Some.list.now c.deref.result.now (named c.deref-2.result.now) _ _ _ _ _ _ _ _
    c.in-Some.ensures.command (read_seen _ _ _ _ c.deref.ensures.value c.in-Ok.ensures.found.0)
    (listed_seen _ _ _ c.deref-2.ensures.value c.in-Ok-names_in.ensures.listed) c.read_named.ensures.kept c.in-Err-Reading.field-0-is
    c.in-Err-Reading.ensures.translated c.tell-in-Err-Reading.ensures

pub returns-in-Err-Writing-clause-outcome : goal.returns-in-Err-Writing-clause-outcome
returns-in-Err-Writing-clause-outcome g c =
    unit_unwritten _ _ _ c.in-Some.list.now c.deref.result.now (named c.deref-2.result.now) _ _ _ _
    c.in-Some.ensures.command (read_seen _ _ _ _ c.deref.ensures.value c.in-Ok.ensures.found.0)
    (listed_seen _ _ _ c.deref-2.ensures.value c.in-Ok-names_in.ensures.listed) c.read_named.ensures.kept c.in-Err-Writing.field-0-is
    c.in-Err-Writing.ensures.translated

pub returns-clause-outcome : goal.returns-clause-outcome
returns-clause-outcome g c =
    names_no_memory _ _ _ c.in-Some.list.now c.deref.result.now (named c.deref-2.result.now) _ _ _ _ _ _ _ _
    c.in-Some.ensures.command (read_seen _ _ _ _ c.deref.ensures.value c.in-Ok.ensures.found.0)
    (listed_seen _ _ _ c.deref-2.ensures.value c.in-Ok-names_in.ensures.listed) c.read_named.ensures.kept c.in-Err-Memory.field-0-is
    c.in-Err-Memory.ensures.translated c.tell_no_memory-in-Err-Memory.ensures
