-- A row gathered from the newest node of a chain to the oldest.
use Rattle.std.proofs.Common.{◌≡◌, ℕ, ◌<◌, ◌≤◌, Bool, not, ◌||◌, List, map, Option, Some, None, sym, ap, ◌∙◌, subst, All, Bor, rules, arith}
use Rattle.std.specs.List.{filter}
use Rattle.std.proofs.lemmas.List.Elements.{All-append, All-filter}
use denote.Param.Weighed.{most, at_most}
use Rattle.sml_static.specs.declared.env.Env.{out-Env, out-roll-Env}
use Rattle.env_arena.specs.declared.node.StrNode.{StrNode, out-StrNode}
use Rattle.env_arena.specs.declared.node.EnvNode.{EnvNode, out-EnvNode}
use Rattle.env_arena.specs.declared.node.EnvNode.TheViews
use Rattle.env_arena.specs.declared.node.EnvNode.TheViews.{size-EnvNode, size-StrNode}
use Rattle.env_arena.specs.declared.node.EnvNode.TheOpen.{EnvNode-F}
use Rattle.env_arena.specs.Over.{has_name, over}
use Rattle.env_arena.specs.Spelling.{spelled, spelled_val, spelled_tycon, spelled_str}
use Rattle.env_arena.proofs.Levels.{own_env, over_level, spelled-level}
use Rattle.env_arena.proofs.Over.{has_name_over, over_assoc, over_map}

-- one level more
pub flat_step : {A B : Type 0} (name_of : B → List ℕ) (f : A → B) (whole level under : List B) (own row more : List A) → level ≡ over name_of under (map f own) → more ≡ over (λ x. name_of (f x)) own row → over name_of level (map f row) ≡ whole → over name_of under (map f more) ≡ whole
flat_step name_of f whole level under own row more is added before =
    ap (λ r. over name_of under (map f r)) added ∙ ap (over name_of under) (sym (over_map name_of f own row))
    ∙ sym (over_assoc name_of under (map f own) (map f row))
    ∙ ap (λ r. over name_of r (map f row)) (sym is) ∙ before

-- the last level
pub flat_end : {A B : Type 0} (name_of : B → List ℕ) (f : A → B) (whole level : List B) (own row more : List A) → level ≡ map f own → more ≡ over (λ x. name_of (f x)) own row → over name_of level (map f row) ≡ whole → map f more ≡ whole
flat_end name_of f whole level own row more is added before =
    ap (map f) added ∙ sym (over_map name_of f own row) ∙ ap (λ r. over name_of r (map f row)) (sym is) ∙ before

-- the names of one level more
pub names_step : {A : Type 0} (name_of : A → List ℕ) (own row more : List A) (old new : List ℕ → Bool) → ((n : List ℕ) → old n ≡ has_name name_of n row) → ((n : List ℕ) → new n ≡ (has_name name_of n own || old n)) → more ≡ over name_of own row → (n : List ℕ) → new n ≡ has_name name_of n more
names_step name_of own row more old new before all added n =
    all n ∙ ap (λ b. has_name name_of n own || b) (before n) ∙ sym (has_name_over name_of n own row) ∙ ap (has_name name_of n) (sym added)

-- the rows of a level, by the node under it
lone_level : (under : Option (Bor EnvNode)) (d : EnvNode-F EnvNode StrNode) → under ≡ None → over_level under (own_env d) ≡ own_env d
lone_level under d q = ap (λ o. over_level o (own_env d)) q

under_level : (under : Option (Bor EnvNode)) (u : Bor EnvNode) (d : EnvNode-F EnvNode StrNode) → under ≡ Some u → over_level under (own_env d) ≡ over_level (Some u) (own_env d)
under_level under u d q = ap (λ o. over_level o (own_env d)) q

pub lone_val : (e : EnvNode) → (out-EnvNode e).under ≡ None → (out-Env (spelled e)).vals ≡ map spelled_val (out-EnvNode e).vals.now
lone_val e q = ap (λ x. (out-Env x).vals) (spelled-level e ∙ lone_level (out-EnvNode e).under (out-EnvNode e) q) ∙ simp out-roll-Env

pub under_val : (e : EnvNode) (u : Bor EnvNode) → (out-EnvNode e).under ≡ Some u → (out-Env (spelled e)).vals ≡ over (λ v. v.0) (out-Env (spelled u.now)).vals (map spelled_val (out-EnvNode e).vals.now)
under_val e u q = ap (λ x. (out-Env x).vals) (spelled-level e ∙ under_level (out-EnvNode e).under u (out-EnvNode e) q) ∙ simp out-roll-Env

pub lone_tycon : (e : EnvNode) → (out-EnvNode e).under ≡ None → (out-Env (spelled e)).tycons ≡ map spelled_tycon (out-EnvNode e).tycons.now
lone_tycon e q = ap (λ x. (out-Env x).tycons) (spelled-level e ∙ lone_level (out-EnvNode e).under (out-EnvNode e) q) ∙ simp out-roll-Env

pub under_tycon : (e : EnvNode) (u : Bor EnvNode) → (out-EnvNode e).under ≡ Some u → (out-Env (spelled e)).tycons ≡ over (λ t. t.0) (out-Env (spelled u.now)).tycons (map spelled_tycon (out-EnvNode e).tycons.now)
under_tycon e u q = ap (λ x. (out-Env x).tycons) (spelled-level e ∙ under_level (out-EnvNode e).under u (out-EnvNode e) q) ∙ simp out-roll-Env

pub lone_str : (e : EnvNode) → (out-EnvNode e).under ≡ None → (out-Env (spelled e)).strs ≡ map spelled_str (out-EnvNode e).strs.now
lone_str e q = ap (λ x. (out-Env x).strs) (spelled-level e ∙ lone_level (out-EnvNode e).under (out-EnvNode e) q) ∙ simp out-roll-Env

pub under_str : (e : EnvNode) (u : Bor EnvNode) → (out-EnvNode e).under ≡ Some u → (out-Env (spelled e)).strs ≡ over (λ s. s.0) (out-Env (spelled u.now)).strs (map spelled_str (out-EnvNode e).strs.now)
under_str e u q = ap (λ x. (out-Env x).strs) (spelled-level e ∙ under_level (out-EnvNode e).under u (out-EnvNode e) q) ∙ simp out-roll-Env

-- how deep the structures of a node are
pub size_under : (e : EnvNode) (u : Bor EnvNode) → (out-EnvNode e).under ≡ Some u → size-EnvNode u.now < size-EnvNode e
size_under e u q = search (rules, TheViews.the_lemmas)

pub size_strs : (e : EnvNode) → TheViews.weight-EnvNode-strs (out-EnvNode e).strs < size-EnvNode e
size_strs e = search (rules, TheViews.the_lemmas)

pub size_env : (s : StrNode) → size-EnvNode (out-StrNode s).env.now < size-StrNode s
size_env s = search (rules, TheViews.the_lemmas)

pub size_step : (e : EnvNode) (u : Bor EnvNode) (n : ℕ) → (out-EnvNode e).under ≡ Some u → size-EnvNode e ≤ n → size-EnvNode u.now ≤ n
size_step e u n q h = omega (arith, size_under e u q)

all_below : (xs : List StrNode) (n : ℕ) → most size-StrNode xs < n → All (λ s. size-StrNode s < n) xs
all_below xs n h = λ k d lt. omega (arith, at_most size-StrNode xs k d lt)

-- a level's structures are less deep than what its node is part of
pub depth_step : (name_of : StrNode → List ℕ) (n : ℕ) (e : EnvNode) (row more : List StrNode) → more ≡ over name_of (out-EnvNode e).strs.now row → size-EnvNode e ≤ n → All (λ s. size-StrNode s < n) row → All (λ s. size-StrNode s < n) more
depth_step name_of n e row more added within before =
    let P : StrNode → Type 0 = λ s. size-StrNode s < n in
    let own = (out-EnvNode e).strs.now in
    let here : All P own = all_below own n (omega (arith, size_strs e)) in
    let kept = filter (λ x. not (has_name name_of (name_of x) row)) own in
    subst (λ (r : List StrNode). All P r) (sym added) (All-append P kept row (All-filter (λ x. not (has_name name_of (name_of x) row)) P own here) before)
