-- Names of one part, and the variables that a pattern or a group binds.
use Rattle.std.proofs.Common.{◌≡◌, ◌⊎◌, ℕ, inl, inr, [], ◌∷◌, Option, Some, None, Bool, true, false, if◌then◌else◌, refl, sym, ap, ◌∙◌, subst}
use Rattle.std.specs.Str.{bytes_eq}
use Rattle.std.proofs.lemmas.Slice.Eq.{bytes_eq-Decides}
use Rattle.oc_ast.specs.Plain.{Bytes, Long}
use Rattle.oc_typing.specs.Ty.{Ty, IsClosed, inst}
use Rattle.oc_typing.specs.Env.{Env, AddVal, con_of, mod_of, over, type_of, val_of}
use Rattle.oc_typing.specs.Variables.{Differ, IsOther, NoVars, OneVar, Vars, VarsClosed, inst_vars, joined, put_vars}
use Rattle.oc_typing.proofs.Untyped.{closed_inst}
use Rattle.runs.specs.Forms.{var}
use Rattle.runs.specs.Names.{Name, same, same_part}
use Rattle.runs.proofs.Paths.{name_self, part_same}
use Rattle.oc_sound.proofs.Meanings.{inst_closed}
use Rattle.oc_sound.specs.Words.{capital}

pub some_is : {A : Type 0} (a b : A) → Some a ≡ Some b → a ≡ b
some_is {A} a b e = ap pick e
  where
    pick : Option A → A
    pick None = a
    pick (Some c) = c

pub true_false : (b : Bool) → b ≡ true → b ≡ false → ⊥
true_false true h k = absurd (cc k)
true_false false h k = absurd (cc h)

-- the two ways to compare names agree
part_is : (x y : Bytes) (b : Bool) → same_part x y ≡ b → same (var x) (var y) ≡ b
part_is x y true e = ap (λ c. if c then true else false) e
part_is x y false e = ap (λ c. if c then true else false) e

bytes_part : (x y : Bytes) (b c : Bool) → bytes_eq y x ≡ b → same_part x y ≡ c → b ≡ c
bytes_part x y true true e h = refl
bytes_part x y false false e h = refl
bytes_part x y true false e h = absurd (true_false (same_part x x) (self x) (subst (λ z. same_part x z ≡ false) ((bytes_eq-Decides y x).0 e) h))
  where
    self : (p : Bytes) → same_part p p ≡ true
    self p = both (same_part p p) (name_self (p ∷ []))
      where
        both : (b : Bool) → (if b then true else false) ≡ true → b ≡ true
        both true q = refl
        both false q = q
bytes_part x y false true e h = absurd (true_false (bytes_eq y x) ((bytes_eq-Decides y x).1 (sym (part_same x y h))) e)

pub var_same : (x y : Bytes) (b : Bool) → bytes_eq y x ≡ b → same (var x) (var y) ≡ b
var_same x y b e = part_is x y b (sym (bytes_part x y b (same_part x y) e refl))

pub part_bytes : (x y : Bytes) (b : Bool) → bytes_eq y x ≡ b → same_part x y ≡ b
part_bytes x y b e = sym (bytes_part x y b (same_part x y) e refl)

-- a path through a module is no variable
pub long_other : (x m y : Bytes) (q : Long) → same (var x) (m ∷ y ∷ q) ≡ false
long_other x m y q = by (same_part x m)
  where
    by : (b : Bool) → (if b then same [] (y ∷ q) else false) ≡ false
    by true = refl
    by false = refl

-- ---- what is bound

-- the variables, as names of runs
abbrev pub bound_in : Vars → Name → Bool
bound_in NoVars q = false
bound_in (OneVar x t bs) q = if same (var x) q then true else bound_in bs q

-- x is bound, with this type
abbrev pub IsBound : Bytes → Ty → Vars → Type 0
IsBound y t NoVars = ⊥
IsBound y t (OneVar x u bs) = ((bytes_eq y x ≡ true) × (t ≡ u)) ⊎ IsBound y t bs

abbrev pub AllSmall : Vars → Type 0
AllSmall NoVars = Unit {0}
AllSmall (OneVar x t bs) = (capital x ≡ false) × AllSmall bs

pub or_assoc : (b c d : Bool) → (if (if b then true else c) then true else d) ≡ (if b then true else (if c then true else d))
or_assoc true c d = refl
or_assoc false c d = refl

pub or_none : (b : Bool) → (if b then true else false) ≡ b
or_none true = refl
or_none false = refl

pub joined_bound : (cs ds : Vars) (q : Name) → bound_in (joined cs ds) q ≡ (if bound_in cs q then true else bound_in ds q)
joined_bound NoVars ds q = refl
joined_bound (OneVar x t cs) ds q = ap (λ b. if same (var x) q then true else b) (joined_bound cs ds q) ∙ sym (or_assoc (same (var x) q) (bound_in cs q) (bound_in ds q))

pub joined_small : (cs ds : Vars) → AllSmall cs → AllSmall ds → AllSmall (joined cs ds)
joined_small NoVars ds h k = k
joined_small (OneVar x t cs) ds h k = (h.0, joined_small cs ds h.1 k)

pub long_unbound : (bs : Vars) (m y : Bytes) (q : Long) → bound_in bs (m ∷ y ∷ q) ≡ false
long_unbound NoVars m y q = refl
long_unbound (OneVar x t bs) m y q = ap (λ b. if b then true else bound_in bs (m ∷ y ∷ q)) (long_other x m y q) ∙ long_unbound bs m y q

none_unbound : (bs : Vars) → bound_in bs [] ≡ false
none_unbound NoVars = refl
none_unbound (OneVar x t bs) = none_unbound bs

large_other : (x y : Bytes) → capital x ≡ false → capital y ≡ true → same (var x) (var y) ≡ false
large_other x y h k = var_same x y false (false_if (bytes_eq y x) (λ e. true_false (capital y) k (subst (λ z. capital z ≡ false) (sym ((bytes_eq-Decides y x).0 e)) h)))
  where
    false_if : (b : Bool) → (b ≡ true → ⊥) → b ≡ false
    false_if true g = absurd (g refl)
    false_if false g = refl

pub large_unbound : (bs : Vars) (y : Bytes) → AllSmall bs → capital y ≡ true → bound_in bs (var y) ≡ false
large_unbound NoVars y h k = refl
large_unbound (OneVar x t bs) y h k = ap (λ b. if b then true else bound_in bs (var y)) (large_other x y h.0 k) ∙ large_unbound bs y h.1 k

-- the names of an exception and of a value
pub small_other : (n y : Bytes) → capital n ≡ true → capital y ≡ false → same (var n) (var y) ≡ false
small_other n y h k = var_same n y false (false_if (bytes_eq y n) (λ e. true_false (capital n) h (subst (λ z. capital z ≡ false) ((bytes_eq-Decides y n).0 e) k)))
  where
    false_if : (b : Bool) → (b ≡ true → ⊥) → b ≡ false
    false_if true g = absurd (g refl)
    false_if false g = refl

-- ---- what stands for each variable

abbrev pub assoc : {A : Type 0} → (Ty → A) → Vars → Name → Option A
assoc m NoVars q = None
assoc m (OneVar x t bs) q = if same (var x) q then Some (m t) else assoc m bs q

other_bound : (x y : Bytes) (t : Ty) (bs : Vars) → IsOther x bs → IsBound y t bs → bytes_eq y x ≡ true → ⊥
other_bound x y t NoVars o b e = b
other_bound x y t (OneVar z u bs) o (inl b) e =
    true_false (bytes_eq x z) (subst (λ v. bytes_eq v z ≡ true) ((bytes_eq-Decides y x).0 e) b.0) o.0
other_bound x y t (OneVar z u bs) o (inr b) e = other_bound x y t bs o.1 b e

pub assoc_bound : {A : Type 0} (m : Ty → A) (bs : Vars) (y : Bytes) (t : Ty) → Differ bs → IsBound y t bs → assoc m bs (var y) ≡ Some (m t)
assoc_bound m NoVars y t d b = absurd b
assoc_bound m (OneVar x u bs) y t d (inl b) =
    ap (λ c. if c then Some (m u) else assoc m bs (var y)) (var_same x y true b.0) ∙ ap (λ v. Some (m v)) (sym b.1)
assoc_bound m (OneVar x u bs) y t d (inr b) = by (bytes_eq y x) refl (assoc_bound m bs y t d.1 b)
  where
    by : (c : Bool) → bytes_eq y x ≡ c → assoc m bs (var y) ≡ Some (m t) → (if same (var x) (var y) then Some (m u) else assoc m bs (var y)) ≡ Some (m t)
    by true e h = absurd (other_bound x y t bs d.0 b e)
    by false e h = ap (λ c. if c then Some (m u) else assoc m bs (var y)) (var_same x y false e) ∙ h

pub assoc_inst : {A : Type 0} (m : Ty → A) (us : ℕ → Ty) (bs : Vars) (q : Name) → assoc m (inst_vars us bs) q ≡ assoc (λ t. m (inst us t)) bs q
assoc_inst m us NoVars q = refl
assoc_inst m us (OneVar x t bs) q = ap (λ o. if same (var x) q then Some (m (inst us t)) else o) (assoc_inst m us bs q)

pub inst_bound : (us : ℕ → Ty) (bs : Vars) (q : Name) → bound_in (inst_vars us bs) q ≡ bound_in bs q
inst_bound us NoVars q = refl
inst_bound us (OneVar x t bs) q = ap (λ b. if same (var x) q then true else b) (inst_bound us bs q)

pub inst_small : (us : ℕ → Ty) (bs : Vars) → AllSmall bs → AllSmall (inst_vars us bs)
inst_small us NoVars h = tt
inst_small us (OneVar x t bs) h = (h.0, inst_small us bs h.1)

pub small_inst : (us : ℕ → Ty) (bs : Vars) → AllSmall (inst_vars us bs) → AllSmall bs
small_inst us NoVars h = tt
small_inst us (OneVar x t bs) h = (h.0, small_inst us bs h.1)

inst_other : (us : ℕ → Ty) (x : Bytes) (bs : Vars) → IsOther x bs → IsOther x (inst_vars us bs)
inst_other us x NoVars h = tt
inst_other us x (OneVar y t bs) h = (h.0, inst_other us x bs h.1)

pub inst_differ : (us : ℕ → Ty) (bs : Vars) → Differ bs → Differ (inst_vars us bs)
inst_differ us NoVars h = tt
inst_differ us (OneVar x t bs) h = (inst_other us x bs h.0, inst_differ us bs h.1)

pub inst_vars_closed : (us : ℕ → Ty) → ((i : ℕ) → IsClosed (us i)) → (bs : Vars) → VarsClosed (inst_vars us bs)
inst_vars_closed us k NoVars = tt
inst_vars_closed us k (OneVar x t bs) = (inst_closed us k t, inst_vars_closed us k bs)

pub closed_vars : (us : ℕ → Ty) (bs : Vars) → VarsClosed bs → inst_vars us bs ≡ bs
closed_vars us NoVars h = refl
closed_vars us (OneVar x t bs) h = ap (λ u. OneVar x u (inst_vars us bs)) (closed_inst us t h.0) ∙ ap (OneVar x t) (closed_vars us bs h.1)

pub bound_closed : (bs : Vars) (y : Bytes) (t : Ty) → VarsClosed bs → IsBound y t bs → IsClosed t
bound_closed NoVars y t h b = absurd b
bound_closed (OneVar x u bs) y t h (inl b) = subst IsClosed (sym b.1) h.0
bound_closed (OneVar x u bs) y t h (inr b) = bound_closed bs y t h.1 b

-- ---- variables put over an environment

abbrev pub BoundOr : Bytes → Vars → Env → Ty → Type 0
BoundOr y bs g t = IsBound y t bs ⊎ ((bound_in bs (var y) ≡ false) × (val_of y g ≡ Some t))

pub val_put : (bs : Vars) (y : Bytes) (g : Env) (t : Ty) → val_of y (put_vars bs g) ≡ Some t → BoundOr y bs g t
val_put NoVars y g t e = inr (refl, e)
val_put (OneVar x u bs) y g t e = by (val_put bs y (AddVal x u g) t e)
  where
    here : (c : Bool) → bytes_eq y x ≡ c → bound_in bs (var y) ≡ false → (if c then Some u else val_of y g) ≡ Some t → BoundOr y (OneVar x u bs) g t
    here true p n h = inl (inl (p, sym (some_is u t h)))
    here false p n h = inr (ap (λ b. if b then true else bound_in bs (var y)) (var_same x y false p) ∙ n, h)

    by : BoundOr y bs (AddVal x u g) t → BoundOr y (OneVar x u bs) g t
    by (inl b) = inl (inr b)
    by (inr b) = here (bytes_eq y x) refl b.0 b.1

pub con_put : (bs : Vars) (y : Bytes) (g : Env) → con_of y (put_vars bs g) ≡ con_of y g
con_put NoVars y g = refl
con_put (OneVar x t bs) y g = con_put bs y (AddVal x t g)

pub type_put : (bs : Vars) (y : Bytes) (g : Env) → type_of y (put_vars bs g) ≡ type_of y g
type_put NoVars y g = refl
type_put (OneVar x t bs) y g = type_put bs y (AddVal x t g)

pub mod_put : (bs : Vars) (y : Bytes) (g : Env) → mod_of y (put_vars bs g) ≡ mod_of y g
mod_put NoVars y g = refl
mod_put (OneVar x t bs) y g = mod_put bs y (AddVal x t g)

pub over_put : (bs : Vars) (e g : Env) → over (put_vars bs e) g ≡ put_vars bs (over e g)
over_put NoVars e g = refl
over_put (OneVar x t bs) e g = over_put bs (AddVal x t e) g

pub small_bound : (bs : Vars) (y : Bytes) (t : Ty) → AllSmall bs → IsBound y t bs → capital y ≡ false
small_bound NoVars y t h b = absurd b
small_bound (OneVar x u bs) y t h (inl b) = subst (λ z. capital z ≡ false) (sym ((bytes_eq-Decides y x).0 b.0)) h.0
small_bound (OneVar x u bs) y t h (inr b) = small_bound bs y t h.1 b
