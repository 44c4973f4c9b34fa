use Rattle.std.proofs.Common.{◌≡◌, ℕ, ◌+◌, ◌<◌, Some, [], length, map, get_or, nat_eq, inr, false, sym, refl, ap, subst, ◌∙◌, Bor, List, rules, tests, arith, below_more}
use Rattle.std.proofs.lemmas.Iterator.Consumers.{YieldsList-turn, YieldsList-end, YieldsList-from_enumerate, YieldsList-at}
use Rattle.std.proofs.lemmas.Iterator.Splits.{YieldsList-from_slice_split}
use Rattle.std.proofs.lemmas.List.{length_push}
use Rattle.std.specs.Option.{option_eq}
use Rattle.std.specs.Str.Lines.{strip_carriage_return}
use Rattle.smltl.specs.Listing.{IsBadAt, is_passed_over, lines_of}
use Rattle.smltl.proofs.Listing.{line_in_turn, all_lines_in_turn, bad_past, no_name_as, good_passed_over, good_name, told_passed_over, told_name, good_list}
use Rattle.smltl.proofs.list.names_in.Goals as goal
use Rattle.smltl.proofs.list.names_in.Goals.{In-Some}

-- in a turn, the number is that of the lines so far, and the part without its return is the next line
turn : (c : In-Some) → (c.in-Some.i ≡ length c.loop-i.yielded) × (length c.loop-i.yielded < length (lines_of c.args.list.now)) × (get_or (lines_of c.args.list.now) (length c.loop-i.yielded) [] ≡ strip_carriage_return c.in-Some.part.now)
turn c =
    let item = YieldsList-turn (YieldsList-at c.into_iter-i-iterator.ensures.into_iter_gives (YieldsList-from_enumerate (YieldsList-at c.enumerate-i-items.ensures.source (YieldsList-from_slice_split _ _ c.args.list.now c.split.ensures.rest c.split.ensures.done c.split.ensures.closure (λ x r q k. search (rules, tests)))) c.enumerate-i-items.ensures.count)) c.loop-i.yielded c.loop-i.i-iterator c.loop-i.yielded_by c.next.result c.next.new.self (c.in-Some.i, c.in-Some.part) c.in-Some.is c.next.ensures.steps in
    line_in_turn c.args.list.now (length c.loop-i.yielded) c.in-Some.i c.in-Some.part.now item.0 item.1

pub returns-then-eq-clause-bad : goal.returns-then-eq-clause-bad
returns-then-eq-clause-bad c = λ line is.
    let number : c.in-Some.i ≡ length c.loop-i.yielded = (turn (goal.at.returns-then-eq-clause-bad c).In-Some).0 in
    let said : c.in-Some.i + 1 ≡ line = cc in
    let bad = bad_past c.args.list.now _ c.in-Some.i c.line_past_limit-past.ensures.past c.if-eq.ensures in
    (length c.loop-i.yielded, omega arith, subst (λ (n : ℕ). IsBadAt c.args.list.now n) number bad, c.loop-i.invariant.good)

pub loop-i-preserved-then-is_no_entry : goal.loop-i-preserved-then-is_no_entry
loop-i-preserved-then-is_no_entry c =
    let list = c.args.list.now in
    let n = length c.loop-i.yielded in
    let (number, within, part) = turn (goal.at.loop-i-preserved-then-is_no_entry c).In-Some in
    let apart = subst (λ (k : ℕ). false ≡ option_eq nat_eq c.line_past_limit-past.result (Some k)) number c.if-eq.ensures in
    let here = part ∙ sym c.without_return-line.ensures in
    let passed = sym c.if-is_no_entry.ensures in
    record {
      good = rw (length_push c.loop-i.yielded (c.in-Some.i, c.in-Some.part)) (below_more _ _ c.loop-i.invariant.good (good_passed_over list _ n _ c.line_past_limit-past.ensures.past c.line_past_limit-past.ensures.within apart here passed));
      few = c.loop-i.invariant.few;
      told = rw (length_push c.loop-i.yielded (c.in-Some.i, c.in-Some.part)) (told_passed_over _ list n _ within here passed c.loop-i.invariant.told);
    }

pub returns-in_default-clause-bad : goal.returns-in_default-clause-bad
returns-in_default-clause-bad c = λ line is.
    let list = c.args.list.now in
    let n = length c.loop-i.yielded in
    let (number, within, part) = turn (goal.at.returns-in_default-clause-bad c).In-Some in
    let same : c.in-Some.i ≡ length c.loop-i.yielded = number in
    let said : c.in-Some.i + 1 ≡ line = cc in
    let here = part ∙ sym c.without_return-line.ensures in
    let entry : is_passed_over (get_or (lines_of list) n []) ≡ false = ap is_passed_over here ∙ sym c.if-is_no_entry.ensures in
    let names = ap (λ (all : List (Bor (List ℕ))). map (λ (name : Bor (List ℕ)). name.now) all) c.deref.ensures.value ∙ c.loop-i.invariant.told in
    let no_name = no_name_as _ _ _ _ names (sym here) c.in_default.ensures.none in
    (n, omega arith, inr (within, entry, no_name), c.loop-i.invariant.good)

pub loop-i-preserved : goal.loop-i-preserved
loop-i-preserved c =
    let list = c.args.list.now in
    let n = length c.loop-i.yielded in
    let (number, within, part) = turn (goal.at.loop-i-preserved c).In-Some in
    let apart = subst (λ (k : ℕ). false ≡ option_eq nat_eq c.line_past_limit-past.result (Some k)) number c.if-eq.ensures in
    let here = part ∙ sym c.without_return-line.ensures in
    let entry = sym c.if-is_no_entry.ensures in
    let names = ap (λ (all : List (Bor (List ℕ))). map (λ (name : Bor (List ℕ)). name.now) all) c.deref.ensures.value ∙ c.loop-i.invariant.told in
    record {
      good = rw (length_push c.loop-i.yielded (c.in-Some.i, c.in-Some.part)) (below_more _ _ c.loop-i.invariant.good (good_name list _ n _ _ c.line_past_limit-past.ensures.past c.line_past_limit-past.ensures.within apart here names c.in-Some-name_on.ensures.name.1));
      few = (let below : length c.deref.result.now < 4096 = c.in-Some-name_on.ensures.room refl in omega (arith, c.deref.ensures.len, c.in_ok-push.ensures.len));
      told = rw (length_push c.loop-i.yielded (c.in-Some.i, c.in-Some.part)) (told_name _ _ c.in-Some-name_on.name list n _ within here entry c.in-Some-name_on.ensures.name.0 c.in_ok-push.ensures.items c.loop-i.invariant.told);
    }

pub returns-clause-listed : goal.returns-clause-listed
returns-clause-listed c =
    let all = YieldsList-end (YieldsList-at c.into_iter-i-iterator.ensures.into_iter_gives (YieldsList-from_enumerate (YieldsList-at c.enumerate-i-items.ensures.source (YieldsList-from_slice_split _ _ c.args.list.now c.split.ensures.rest c.split.ensures.done c.split.ensures.closure (λ x r q k. search (rules, tests)))) c.enumerate-i-items.ensures.count)) c.loop-i.yielded c.loop-i.i-iterator c.loop-i.yielded_by c.next.result c.next.new.self c.in-None.is c.next.ensures.steps in
    good_list c.args.list.now (length c.loop-i.yielded) _ (all.1 ∙ all_lines_in_turn c.args.list.now) c.loop-i.invariant.good c.loop-i.invariant.told
