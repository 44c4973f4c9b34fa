-- What a tree finds after a binding is put into it.
use Rattle.std.proofs.Common.{◌≡◌, ℕ, ◌+◌, ◌/◌, ◌%◌, ◌==◌, ◌≢◌, Bool, true, false, cond, List, [], map, Option, Some, None, refl, sym, ap, ◌∙◌, subst, Bor, eq-eqb, ne_eqb, rules}
use Rattle.std.specs.Str.{bytes_eq}
use Rattle.std.specs.Option.{option_map}
use Rattle.std.proofs.lemmas.Slice.Eq.{bytes_eq-Decides}
use Rattle.sml_static.specs.declared.ty.TyFun.{TyFun}
use Rattle.sml_static.specs.Lookups.{last_named}
use Rattle.env_arena.specs.Over.{over, env_over}
use Rattle.env_arena.specs.Spelling.{own_rows}
use Rattle.env_arena.specs.declared.node.EnvNode.{EnvNode, out-EnvNode}
use Rattle.sml_static.specs.declared.env.Env.{Env, out-Env, roll-Env, out-roll-Env}
use Rattle.env_arena.specs.Spelling.{spelled_val, spelled_tycon, spelled_str}
use Rattle.env_scope.specs.declared.tree.Binding.{Binding}
use Rattle.env_scope.specs.declared.tree.Tree.{Tree}
use Rattle.env_scope.specs.declared.tree.Tree.TheFolds
use Rattle.env_scope.specs.declared.tree.Tree.TheViews
use Rattle.env_scope.specs.declared.tree.Tree.TheVariants as tree
use Rattle.env_scope.specs.Index.{found, bound, val_of, tycon_of, str_of}
use Rattle.env_scope.specs.Numbers.{bits_at}
use Rattle.env_scope.specs.Scopes.{Agrees}
use Rattle.env_scope.proofs.Bits.{bits_next, same_bit, put_even, put_odd, alone_even, alone_odd, twice}

pub found_empty : (k : ℕ) (n : List ℕ) → found tree.Empty k n ≡ None
found_empty k n = search (rules, TheFolds.the_lemmas, TheViews.the_lemmas)

pub found_one : (b : Bor Binding) (rest : Bor Tree) (k : ℕ) (n : List ℕ) → found (tree.One b rest) k n ≡ cond (bytes_eq b.now.name.now n) (Some b.now) (found rest.now k n)
found_one b rest k n = search (rules, TheFolds.the_lemmas, TheViews.the_lemmas)

pub found_fork : (even odd : Bor Tree) (k : ℕ) (n : List ℕ) → found (tree.Fork even odd) k n ≡ cond (k % 2 == 0) (found even.now (k / 2) n) (found odd.now (k / 2) n)
found_fork even odd k n = search (rules, TheFolds.the_lemmas, TheViews.the_lemmas)

at_half : (depth : ℕ) (b : Binding) (more old : Tree) → ((n : List ℕ) → found more (bits_at (depth + 1) n) n ≡ cond (bytes_eq b.name.now n) (Some b) (found old (bits_at (depth + 1) n) n)) → (n : List ℕ) → found more (bits_at depth n / 2) n ≡ cond (bytes_eq b.name.now n) (Some b) (found old (bits_at depth n / 2) n)
at_half depth b more old below n =
    ap (λ j. found more j n) (bits_next depth n) ∙ below n ∙ ap (λ j. cond (bytes_eq b.name.now n) (Some b) (found old j n)) (sym (bits_next depth n))

pub fork_even : (depth bits : ℕ) (b : Binding) (more even odd : Tree) → bits ≡ bits_at depth b.name.now → bits % 2 ≡ 0 → ((n : List ℕ) → found more (bits_at (depth + 1) n) n ≡ cond (bytes_eq b.name.now n) (Some b) (found even (bits_at (depth + 1) n) n)) → (n : List ℕ) → cond (bits_at depth n % 2 == 0) (found more (bits_at depth n / 2) n) (found odd (bits_at depth n / 2) n) ≡ cond (bytes_eq b.name.now n) (Some b) (cond (bits_at depth n % 2 == 0) (found even (bits_at depth n / 2) n) (found odd (bits_at depth n / 2) n))
fork_even depth bits b more even odd are bit below n =
    let first : (bits_at depth b.name.now % 2 == 0) ≡ true = ap (λ j. j % 2 == 0) (sym are) ∙ eq-eqb (bits % 2) 0 bit in
    put_even (found more (bits_at depth n / 2) n) (found even (bits_at depth n / 2) n) (found odd (bits_at depth n / 2) n) (Some b) (bytes_eq b.name.now n) (bits_at depth n % 2 == 0)
    (at_half depth b more even below n) (same_bit depth b.name.now n true first)

pub fork_odd : (depth bits : ℕ) (b : Binding) (more even odd : Tree) → bits ≡ bits_at depth b.name.now → bits % 2 ≢ 0 → ((n : List ℕ) → found more (bits_at (depth + 1) n) n ≡ cond (bytes_eq b.name.now n) (Some b) (found odd (bits_at (depth + 1) n) n)) → (n : List ℕ) → cond (bits_at depth n % 2 == 0) (found even (bits_at depth n / 2) n) (found more (bits_at depth n / 2) n) ≡ cond (bytes_eq b.name.now n) (Some b) (cond (bits_at depth n % 2 == 0) (found even (bits_at depth n / 2) n) (found odd (bits_at depth n / 2) n))
fork_odd depth bits b more even odd are bit below n =
    let first : (bits_at depth b.name.now % 2 == 0) ≡ false = ap (λ j. j % 2 == 0) (sym are) ∙ ne_eqb (bits % 2) 0 bit in
    put_odd (found more (bits_at depth n / 2) n) (found even (bits_at depth n / 2) n) (found odd (bits_at depth n / 2) n) (Some b) (bytes_eq b.name.now n) (bits_at depth n % 2 == 0)
    (at_half depth b more odd below n) (same_bit depth b.name.now n false first)

-- a binding in the place of one of the same name
pub over_same : (b old : Binding) (one rest : Tree) → bytes_eq old.name.now b.name.now ≡ true → ((n : List ℕ) (k : ℕ) → found one k n ≡ cond (bytes_eq old.name.now n) (Some old) (found rest k n)) → (n : List ℕ) (k : ℕ) → cond (bytes_eq b.name.now n) (Some b) (found rest k n) ≡ cond (bytes_eq b.name.now n) (Some b) (found one k n)
over_same b old one rest same is n k =
    twice (bytes_eq b.name.now n) (Some b) (Some old) (found rest k n)
    ∙ ap (λ w. cond (bytes_eq b.name.now n) (Some b) (cond (bytes_eq w n) (Some old) (found rest k n))) (sym ((bytes_eq-Decides old.name.now b.name.now).0 same))
    ∙ ap (cond (bytes_eq b.name.now n) (Some b)) (sym (is n k))

-- a binding alone stands for a fork that has it on the side of its bit
pub split_even : (depth : ℕ) (old : Binding) (one none : Tree) → ((n : List ℕ) (k : ℕ) → found one k n ≡ cond (bytes_eq old.name.now n) (Some old) (found none k n)) → ((n : List ℕ) (k : ℕ) → found none k n ≡ None) → bits_at depth old.name.now % 2 ≡ 0 → (n : List ℕ) → cond (bits_at depth n % 2 == 0) (found one (bits_at depth n / 2) n) (found none (bits_at depth n / 2) n) ≡ found one (bits_at depth n) n
split_even depth old one none is nothing bit n =
    let k = bits_at depth n in
    let same = bytes_eq old.name.now n in
    let alone : (j : ℕ) → found one j n ≡ cond same (Some old) None = λ j. is n j ∙ ap (cond same (Some old)) (nothing n j) in
    ap (λ o. cond (k % 2 == 0) o (found none (k / 2) n)) (alone (k / 2)) ∙ ap (λ o. cond (k % 2 == 0) (cond same (Some old) None) o) (nothing n (k / 2))
    ∙ alone_even old same (k % 2 == 0) (same_bit depth old.name.now n true (eq-eqb (bits_at depth old.name.now % 2) 0 bit)) ∙ sym (alone k)

pub split_odd : (depth : ℕ) (old : Binding) (one none : Tree) → ((n : List ℕ) (k : ℕ) → found one k n ≡ cond (bytes_eq old.name.now n) (Some old) (found none k n)) → ((n : List ℕ) (k : ℕ) → found none k n ≡ None) → bits_at depth old.name.now % 2 ≢ 0 → (n : List ℕ) → cond (bits_at depth n % 2 == 0) (found none (bits_at depth n / 2) n) (found one (bits_at depth n / 2) n) ≡ found one (bits_at depth n) n
split_odd depth old one none is nothing bit n =
    let k = bits_at depth n in
    let same = bytes_eq old.name.now n in
    let alone : (j : ℕ) → found one j n ≡ cond same (Some old) None = λ j. is n j ∙ ap (cond same (Some old)) (nothing n j) in
    ap (λ o. cond (k % 2 == 0) (found none (k / 2) n) o) (alone (k / 2)) ∙ ap (λ o. cond (k % 2 == 0) o (cond same (Some old) None)) (nothing n (k / 2))
    ∙ alone_odd old same (k % 2 == 0) (same_bit depth old.name.now n false (ne_eqb (bits_at depth old.name.now % 2) 0 bit)) ∙ sym (alone k)

-- the empty tree finds what the environment without names binds
pub agrees_empty : (t : Tree) (e : Env) → ((k : ℕ) (n : List ℕ) → found t k n ≡ None) → e ≡ roll-Env (record { vals = []; tycons = []; strs = [] }) → Agrees t e
agrees_empty t e nothing is =
    let P : Env → Type 0 = λ x. Agrees t x in
    subst P (sym is) (record {
      vals = λ n. ap (λ o. option_map spelled_val (val_of o)) (nothing _ n) ∙ simp out-roll-Env;
      tycons = λ n. ap (λ o. option_map spelled_tycon (tycon_of o)) (nothing _ n) ∙ simp out-roll-Env;
      strs = λ n. ap (λ o. option_map spelled_str (str_of o)) (nothing _ n) ∙ simp out-roll-Env;
    })

-- the rows of a node whose own rows are an environment's
pub own_vals : (e : EnvNode) (t : Env) → own_rows e ≡ t → map spelled_val (out-EnvNode e).vals.now ≡ (out-Env t).vals
own_vals e t q = sym (ap (λ r. r.vals) (out-roll-Env (record { vals = map spelled_val (out-EnvNode e).vals.now; tycons = map spelled_tycon (out-EnvNode e).tycons.now; strs = map spelled_str (out-EnvNode e).strs.now }))) ∙ ap (λ x. (out-Env x).vals) q

pub own_tycons : (e : EnvNode) (t : Env) → own_rows e ≡ t → map spelled_tycon (out-EnvNode e).tycons.now ≡ (out-Env t).tycons
own_tycons e t q = sym (ap (λ r. r.tycons) (out-roll-Env (record { vals = map spelled_val (out-EnvNode e).vals.now; tycons = map spelled_tycon (out-EnvNode e).tycons.now; strs = map spelled_str (out-EnvNode e).strs.now }))) ∙ ap (λ x. (out-Env x).tycons) q

pub own_strs : (e : EnvNode) (t : Env) → own_rows e ≡ t → map spelled_str (out-EnvNode e).strs.now ≡ (out-Env t).strs
own_strs e t q = sym (ap (λ r. r.strs) (out-roll-Env (record { vals = map spelled_val (out-EnvNode e).vals.now; tycons = map spelled_tycon (out-EnvNode e).tycons.now; strs = map spelled_str (out-EnvNode e).strs.now }))) ∙ ap (λ x. (out-Env x).strs) q

-- a tree that finds what each row over another binds agrees with the environment over the other
pub agrees_over : (t : Tree) (first then e : Env) → e ≡ env_over first then → ((n : List ℕ) → option_map spelled_val (val_of (bound t n)) ≡ last_named (λ v. v.0) n (over (λ v. v.0) (out-Env first).vals (out-Env then).vals)) → ((n : List ℕ) → option_map spelled_tycon (tycon_of (bound t n)) ≡ last_named (λ t. t.0) n (over (λ t. t.0) (out-Env first).tycons (out-Env then).tycons)) → ((n : List ℕ) → option_map spelled_str (str_of (bound t n)) ≡ last_named (λ s. s.0) n (over (λ s. s.0) (out-Env first).strs (out-Env then).strs)) → Agrees t e
agrees_over t first then e is vals tycons strs =
    let P : Env → Type 0 = λ x. Agrees t x in
    subst P (sym is) (record {
      vals = λ n. simp out-roll-Env (vals n);
      tycons = λ n. simp out-roll-Env (tycons n);
      strs = λ n. simp out-roll-Env (strs n);
    })
