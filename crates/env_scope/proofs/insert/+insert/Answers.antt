use Rattle.std.proofs.Common.{◌≡◌, ◌≢◌, ◌==◌, ℕ, ◌+◌, ◌/◌, ◌%◌, ◌^◌, true, cond, List, Some, sym, subst, ap, ◌∙◌, rules}
use Rattle.std.specs.Str.{bytes_eq}
use Rattle.std.proofs.lemmas.Bool.{not-false}
use Rattle.std.proofs.lemmas.Result.{IfOk-weaker}
use Rattle.env_scope.specs.declared.tree.Tree.{Tree}
use Rattle.env_scope.specs.Index.{found}
use Rattle.env_scope.specs.Numbers.{bits_at}
use Rattle.env_scope.proofs.Bits.{bits_next}
use Rattle.env_scope.proofs.Forks.{found_one, found_fork, fork_even, fork_odd, over_same, split_even, split_odd}
use Rattle.env_scope.proofs.insert.+insert.Goals as goal

pub insert_under-insert-requires : goal.insert_under-insert-requires
insert_under-insert-requires t c =
    (search rules, ap (λ (k : ℕ). k / 2) c.requires.bits ∙ bits_next c.args.depth c.args.binding.now.name.now)

pub insert_under-insert-requires-else-bits-eq0 : goal.insert_under-insert-requires-else-bits-eq0
insert_under-insert-requires-else-bits-eq0 t c =
    (search rules, ap (λ (k : ℕ). k / 2) c.requires.bits ∙ bits_next c.args.depth c.args.binding.now.name.now)

pub insert_under-returns-in_ok-try_alloc : goal.insert_under-returns-in_ok-try_alloc
insert_under-returns-in_ok-try_alloc t c = λ n.
    let k = bits_at c.args.depth n in
    found_fork _ c.args.odd k n
    ∙ ap (λ (m : Tree). cond (k % 2 == 0) (found m (k / 2) n) (found c.args.odd.now (k / 2) n)) c.in_ok-try_alloc.ensures
    ∙ fork_even c.args.depth c.args.bits c.args.binding.now c.in_ok-even.even c.args.even.now c.args.odd.now c.requires.bits c.if-bits-eq0.true c.in_ok-even.ensures n

pub insert_under-returns-in_ok-try_alloc-2 : goal.insert_under-returns-in_ok-try_alloc-2
insert_under-returns-in_ok-try_alloc-2 t c = λ n.
    let k = bits_at c.args.depth n in
    found_fork c.args.even _ k n
    ∙ ap (λ (m : Tree). cond (k % 2 == 0) (found c.args.even.now (k / 2) n) (found m (k / 2) n)) c.in_ok-try_alloc-2.ensures
    ∙ fork_odd c.args.depth c.args.bits c.args.binding.now c.in_ok-odd.odd c.args.even.now c.args.odd.now c.requires.bits c.if-bits-eq0.false c.in_ok-odd.ensures n

pub insert_beside-returns-then-eq : goal.insert_beside-returns-then-eq
insert_beside-returns-then-eq t c = λ n.
    let k = bits_at c.args.depth n in
    let same : bytes_eq c.args.old.now.name.now c.args.binding.now.name.now ≡ true = sym c.eq.ensures ∙ c.if-eq.true in
    found_one c.args.binding c.args.rest k n
    ∙ over_same c.args.binding.now c.args.old.now c.args.tree.now c.args.rest.now same c.requires.tree n k

pub insert_beside-returns-then-number_of-depth-eq0 : goal.insert_beside-returns-then-number_of-depth-eq0
insert_beside-returns-then-number_of-depth-eq0 t c =
    let b = c.args.binding.now in
    let nothing = c.is_empty.ensures (search (rules, not-false)) in
    let bit = subst (λ (j : ℕ). j / 2 ^ c.args.depth % 2 ≡ 0) c.number_of.ensures c.if-number_of-depth-eq0.true in
    IfOk-weaker c.insert_under.result _ _
    (λ r h n. h n ∙ ap (cond (bytes_eq b.name.now n) (Some b)) (split_even c.args.depth c.args.old.now c.args.tree.now c.args.rest.now c.requires.tree nothing bit n))
    c.insert_under.ensures

pub insert_beside-returns-else-number_of-depth-eq0 : goal.insert_beside-returns-else-number_of-depth-eq0
insert_beside-returns-else-number_of-depth-eq0 t c =
    let b = c.args.binding.now in
    let nothing = c.is_empty.ensures (search (rules, not-false)) in
    let bit = subst (λ (j : ℕ). j / 2 ^ c.args.depth % 2 ≢ 0) c.number_of.ensures c.if-number_of-depth-eq0.false in
    IfOk-weaker c.insert_under-else-number_of-depth-eq0.result _ _
    (λ r h n. h n ∙ ap (cond (bytes_eq b.name.now n) (Some b)) (split_odd c.args.depth c.args.old.now c.args.tree.now c.args.rest.now c.requires.tree nothing bit n))
    c.insert_under-else-number_of-depth-eq0.ensures
