-- Look-ups by parts and paths, and one item more.
use Rattle.std.proofs.Common.{◌≡◌, ℕ, [], ◌∷◌, Option, Some, Bool, true, false, if◌then◌else◌, nat_eq, refl, ap, ap₂, ◌∙◌, arith}
use Rattle.std.proofs.lemmas.Bool.{eqb-true}
use Rattle.std.proofs.lemmas.Grind.{common_steps}
use Rattle.runs.specs.Names.{Part, Name, same_part, same}
use Rattle.runs.specs.Tree.{Const, Fall, Pat, Exp, Lit, Var, Rules, Val, Apply, NoVals, Item, Datum, Clo, Items, Value, Struct}
use Rattle.runs.specs.Env.{Env, empty, put, under, close_pat}
use Rattle.runs.specs.Patterns.{matched}
use Rattle.runs.specs.Primitives.{St, body, act}
use Rattle.runs.specs.Meaning.{Done, Go, then_do, fallen, or_next, known, perform, ev}
use Rattle.runs.specs.Items.{Scope, with_vars, with_struct, inside, ev_items}
use Rattle.runs.specs.Forms.{call}

eq_self : (a : ℕ) → nat_eq a a ≡ true
eq_self a = grind (arith, common_steps)

pub part_self : (p : Part) → same_part p p ≡ true
part_self [] = refl
part_self (a ∷ p) = ap (λ b. if b then same_part p p else false) (eq_self a) ∙ part_self p

pub name_self : (x : Name) → same x x ≡ true
name_self [] = refl
name_self (p ∷ x) = ap (λ b. if b then same x x else false) (part_self p) ∙ name_self x

both_true : (b c : Bool) → (if b then c else false) ≡ true → (b ≡ true) × (c ≡ true)
both_true true c h = (refl, h)
both_true false c h = absurd (cc h)

pub part_same : (p q : Part) → same_part p q ≡ true → p ≡ q
part_same [] [] h = refl
part_same [] (b ∷ q) h = absurd (cc h)
part_same (a ∷ p) [] h = absurd (cc h)
part_same (a ∷ p) (b ∷ q) h = let e = both_true (nat_eq a b) (same_part p q) h in ap₂ (λ x y. x ∷ y) (eqb-true a b e.0) (part_same p q e.1)

pub name_same : (x y : Name) → same x y ≡ true → x ≡ y
name_same [] [] h = refl
name_same [] (q ∷ y) h = absurd (cc h)
name_same (p ∷ x) [] h = absurd (cc h)
name_same (p ∷ x) (q ∷ y) h = let e = both_true (same_part p q) (same x y) h in ap₂ (λ a b. a ∷ b) (part_same p q e.0) (name_same x y e.1)

false_of : (b : Bool) → (b ≡ true → ⊥) → b ≡ false
false_of true h = absurd (h refl)
false_of false h = refl

pub part_other : (p q : Part) → (p ≡ q → ⊥) → same_part p q ≡ false
part_other p q h = false_of (same_part p q) (λ e. h (part_same p q e))

pub name_other : (x y : Name) → (x ≡ y → ⊥) → same x y ≡ false
name_other x y h = false_of (same x y) (λ e. h (name_same x y e))

if_true : (b : Bool) (o p : Option Val) → b ≡ true → (if b then o else p) ≡ o
if_true b o p h = ap (λ c. if c then o else p) h

if_false : (b : Bool) (o p : Option Val) → b ≡ false → (if b then o else p) ≡ p
if_false b o p h = ap (λ c. if c then o else p) h

-- a value that was put in, and one beside it
pub put_here : (x : Name) (v : Val) (env : Env) → put x v env x ≡ Some v
put_here x v env = if_true (same x x) (Some v) (env x) (name_self x)

pub put_other : (x y : Name) (v : Val) (env : Env) → same x y ≡ false → put x v env y ≡ env y
put_other x y v env h = if_false (same x y) (Some v) (env y) h

-- a path into a structure, and into another one
pub under_here : (p : Part) (b env : Env) (r : Part) (x : Name) → under p b env (p ∷ r ∷ x) ≡ b (r ∷ x)
under_here p b env r x = if_true (same_part p p) (b (r ∷ x)) (env (p ∷ r ∷ x)) (part_self p)

pub under_other : (p q : Part) (b env : Env) (r : Part) (x : Name) → same_part p q ≡ false → under p b env (q ∷ r ∷ x) ≡ env (q ∷ r ∷ x)
under_other p q b env r x h = if_false (same_part p q) (b (r ∷ x)) (env (q ∷ r ∷ x)) h

-- a value item whose tree makes a value that its pattern takes
pub value_more : (go : Go) (c : Scope) (f : Fall) (p : Pat) (a : Exp) (is : Items) (s : St) (v : Val) (s1 : St) (bs : Env) → ev go c.env a s ≡ Done v s1 → matched s1.mem (close_pat c.env p) v ≡ Some bs → ev_items go c (Value f p a is) s ≡ ev_items go (with_vars bs c) is s1
value_more go c f p a is s v s1 bs h m =
    ap (λ r. then_do r (λ w t. or_next (matched t.mem (close_pat c.env p) w) (λ b. ev_items go (with_vars b c) is t) (fallen f t))) h
    ∙ ap (λ o. or_next o (λ b. ev_items go (with_vars b c) is s1) (fallen f s1)) m

-- a structure whose items come to their end
pub struct_more : (go : Go) (c : Scope) (p : Part) (items : Items) (is : Items) (s : St) (b : Scope) (s1 : St) → ev_items go (inside c) items s ≡ Done b s1 → ev_items go c (Struct p items is) s ≡ ev_items go (with_struct p b.own c) is s1
struct_more go c p items is s b s1 h = ap (λ r. then_do r (λ (e : Scope) t. ev_items go (with_struct p e.own c) is t)) h

-- the call of a function that stands at a path, on a literal
pub call_literal : (go : Go) (env : Env) (x : Name) (f : Fall) (rs : Rules) (k : Const) (s : St) → env x ≡ Some (Clo f rs) → ev go env (call (Var x) (Lit k)) s ≡ go empty (body f rs (Datum k)) s
call_literal go env x f rs k s h = ap (λ o. then_do (then_do (known o s) (λ u s1. Done (Item u (Item (Datum k) NoVals)) s1)) (λ vs s1. perform go (act Apply vs s1) s1)) h
