-- What the sources bind has the images of its types at its homes.
use Rattle.std.proofs.Common.{◌≡◌, ℕ, suc, ◌+◌, ◌<◌, ◌≤◌, ◌^◌, ◌⊎◌, List, [], ◌∷◌, length, Some, None, Bool, true, false, if◌then◌else◌, refl, sym, ◌∙◌, ap, arith, subst, inl, inr}
use Rattle.std.specs.Prelude.{codes}
use Rattle.std.specs.Str.{bytes_eq}
use Rattle.std.proofs.lemmas.Slice.Eq.{bytes_eq-Decides}
use Rattle.oc_names.specs.Mangled.{may_name, mangled}
use Rattle.oc_names.specs.declared.names.NameKind.TheVariants as kind
use Rattle.built_items.specs.declared.item.SourceItem.{SourceItem}
use Rattle.built_items.specs.declared.item.Target.{Target}
use Rattle.built_items.specs.declared.item.Target.TheVariants as target
use Rattle.tl_session.specs.Static as sml
use Rattle.tl_session.specs.Static.{Entry, Basis, bound, print_entry, initial, with_target, with_items, value_type}
use Rattle.tl_session.specs.Kept.{Source, Kept, image, basis_from, basis_after}
use Rattle.tl_session.specs.OcTypes.{Ty, Env, Empty, AddVal, AddMod, val_at}
use Rattle.tl_session.specs.Written.{base_of, unit_name}
use Rattle.tl_session.proofs.UnitNames.{unit_differs, bytes_same}
use Rattle.tl_session.proofs.ItemNames.{LeavesTarget, LeavesPrint, AllLeavePrint, written_differ}
use Rattle.tl_session.proofs.Typed.{target_env, items_env, units_env, whole_env, rt_env}

-- the structure of a home is none of the units from number k on
abbrev pub IsBefore : ℕ → List ℕ → Type 0
IsBefore k m = (j : ℕ) (b : List ℕ) → k ≤ j → j < 2 ^ 64 → bytes_eq (unit_name j b) m ≡ false

-- each home is a name in a structure before number k
abbrev pub HomesBefore : ℕ → Basis → Type 0
HomesBefore k basis = (x : List ℕ) (e : Entry) → basis x ≡ Some e → (m w : List ℕ) × (e.home ≡ m ∷ w ∷ []) × IsBefore k m

-- the variable is one of the unit, with this type in d
abbrev pub IsOwn : List ℕ → List ℕ → Entry → Env → Type 0
IsOwn u x e d =
    (may_name kind.Value x ≡ true) × (e.home ≡ u ∷ mangled kind.Value x ∷ []) × (val_at (mangled kind.Value x ∷ []) d ≡ Some (image e.type))

-- each variable is one of the unit, with its type in d, or was there before
abbrev pub InUnit : List ℕ → Basis → Basis → Env → Type 0
InUnit u before basis d = (x : List ℕ) (e : Entry) → basis x ≡ Some e → IsOwn u x e d ⊎ (before x ≡ Some e)

-- the type of the name that was bound last, and that of another one
val_here : (w z : List ℕ) (t : Ty) (d : Env) → bytes_eq w z ≡ true → val_at (z ∷ []) (AddVal w t d) ≡ Some t
val_here w z t d same = rw same

val_before : (w z : List ℕ) (t : Ty) (d : Env) → bytes_eq w z ≡ false → val_at (z ∷ []) (AddVal w t d) ≡ val_at (z ∷ []) d
val_before w z t d other = rw other

-- with one more variable
in_unit_more : (u y : List ℕ) (t : sml.Ty) (before basis : Basis) (d : Env) → may_name kind.Value y ≡ true → InUnit u before basis d
    → InUnit u before (bound y (record { type = t; home = u ∷ mangled kind.Value y ∷ [] }) basis) (AddVal (mangled kind.Value y) (image t) d)
in_unit_more u y t before basis d may h x e is = by (bytes_eq y x) refl is where
  by : (b : Bool) → bytes_eq y x ≡ b → (if b then Some (record { type = t; home = u ∷ mangled kind.Value y ∷ [] }) else basis x) ≡ Some e
      → IsOwn u x e (AddVal (mangled kind.Value y) (image t) d) ⊎ (before x ≡ Some e)
  by true same found =
      let named : y ≡ x = (bytes_eq-Decides y x).0 same in
      let entry : record { type = t; home = u ∷ mangled kind.Value y ∷ [] } ≡ e = cc in
      let written : mangled kind.Value y ≡ mangled kind.Value x = ap (mangled kind.Value) named in
      inl (
        (let P : List ℕ → Type 0 = λ z. may_name kind.Value z ≡ true in subst P named may),
        sym (ap (λ (w : Entry). w.home) entry) ∙ ap (λ z. u ∷ z ∷ []) written,
        val_here (mangled kind.Value y) (mangled kind.Value x) (image t) d ((bytes_eq-Decides (mangled kind.Value y) (mangled kind.Value x)).1 written)
            ∙ ap (λ (w : Entry). Some (image w.type)) entry,
      )
  by false other found = by_old (h x e found) where
    by_old : IsOwn u x e d ⊎ (before x ≡ Some e) → IsOwn u x e (AddVal (mangled kind.Value y) (image t) d) ⊎ (before x ≡ Some e)
    by_old (inl p) =
        inl (p.0, p.1, val_before (mangled kind.Value y) (mangled kind.Value x) (image t) d (written_differ y x may p.0 other) ∙ p.2)
    by_old (inr q) = inr q

in_unit_target : (u : List ℕ) (a : Target) (t : sml.Ty) (before basis : Basis) (d : Env) → LeavesTarget a → InUnit u before basis d
    → InUnit u before (with_target u a t basis) (target_env a t d)
in_unit_target u target.Wild t before basis d leaves h = h
in_unit_target u (target.Var y) t before basis d leaves h = in_unit_more u y t before basis d leaves.1 h

in_unit : (u : List ℕ) (is : List SourceItem) (before basis : Basis) (d : Env) → LeavesPrint is → InUnit u before basis d
    → InUnit u before (with_items u is basis) (items_env is d)
in_unit u [] before basis d leaves h = h
in_unit u (i ∷ is) before basis d leaves h =
    in_unit u is before (with_target u i.target (value_type i.value) basis) (target_env i.target (value_type i.value) d) leaves.1
    (in_unit_target u i.target (value_type i.value) before basis d leaves.0 h)

-- a home before number k is found where the unit k is put on top
skips_unit : (k : ℕ) (b m x : List ℕ) (d env : Env) → bytes_eq (unit_name k b) m ≡ false
    → val_at (m ∷ x ∷ []) (AddMod (unit_name k b) d env) ≡ val_at (m ∷ x ∷ []) env
skips_unit k b m x d env other = rw other

in_the_unit : (u x : List ℕ) (d env : Env) → val_at (u ∷ x ∷ []) (AddMod u d env) ≡ val_at (x ∷ []) d
in_the_unit u x d env = rw (bytes_same u)

-- one unit more
kept_more : (k : ℕ) (b : List ℕ) (is : List SourceItem) (basis : Basis) (env : Env) → k < 2 ^ 64 → HomesBefore k basis → Kept basis env → LeavesPrint is
    → Kept (with_items (unit_name k b) is basis) (AddMod (unit_name k b) (items_env is Empty) env)
kept_more k b is basis env low homes kept leaves x e found = by (in_unit (unit_name k b) is basis basis Empty leaves (λ y f was. inr was) x e found) where
  by : IsOwn (unit_name k b) x e (items_env is Empty) ⊎ (basis x ≡ Some e) → val_at e.home (AddMod (unit_name k b) (items_env is Empty) env) ≡ Some (image e.type)
  by (inl p) = ap (λ home. val_at home (AddMod (unit_name k b) (items_env is Empty) env)) p.1 ∙ (in_the_unit (unit_name k b) (mangled kind.Value x) (items_env is Empty) env ∙ p.2)
  by (inr was) =
      let h : _ = homes x e was in
      ap (λ home. val_at home (AddMod (unit_name k b) (items_env is Empty) env)) h.2
      ∙ (skips_unit k b h.0 h.1 (items_env is Empty) env (h.3 k b (omega arith) low)
      ∙ (sym (ap (λ home. val_at home env) h.2) ∙ kept x e was))

pub homes_more : (k : ℕ) (b : List ℕ) (is : List SourceItem) (basis : Basis) → k < 2 ^ 64 → HomesBefore k basis → LeavesPrint is
    → HomesBefore (suc k) (with_items (unit_name k b) is basis)
homes_more k b is basis low homes leaves x e found = by (in_unit (unit_name k b) is basis basis Empty leaves (λ y f was. inr was) x e found) where
  by : IsOwn (unit_name k b) x e (items_env is Empty) ⊎ (basis x ≡ Some e) → (m w : List ℕ) × (e.home ≡ m ∷ w ∷ []) × IsBefore (suc k) m
  by (inl p) =
      (unit_name k b, mangled kind.Value x, p.1, λ j c above low_j. unit_differs j k c b low_j low (λ same. let lt : k < j = omega arith in omega arith))
  by (inr was) = let h : _ = homes x e was in (h.0, h.1, h.2, λ j c above low_j. h.3 j c (omega arith) low_j)

kept_from : (k : ℕ) (ss : List Source) (ps : List (List SourceItem)) (basis : Basis) (env : Env) → k + length ss < 2 ^ 64
    → HomesBefore k basis → Kept basis env → AllLeavePrint ps → Kept (basis_from k ss ps basis) (units_env k ss ps env)
kept_from k [] ps basis env low homes kept leave = kept
kept_from k (s ∷ ss) [] basis env low homes kept leave = kept
kept_from k (s ∷ ss) (p ∷ ps) basis env low homes kept leave =
    kept_from (suc k) ss ps _ _ (omega arith) (homes_more k (base_of s.name) p basis (omega arith) homes leave.0)
    (kept_more k (base_of s.name) p basis env (omega arith) homes kept leave.0) leave.1

initial_only : (x : List ℕ) (e : Entry) → initial x ≡ Some e → (e.home ≡ codes "Rt" ∷ x ∷ []) × (val_at e.home (AddMod (codes "Rt") rt_env Empty) ≡ Some (image e.type))
initial_only x e found = by (bytes_eq (codes "print") x) refl found where
  by : (b : Bool) → bytes_eq (codes "print") x ≡ b → (if b then Some print_entry else None) ≡ Some e
      → (e.home ≡ codes "Rt" ∷ x ∷ []) × (val_at e.home (AddMod (codes "Rt") rt_env Empty) ≡ Some (image e.type))
  by true same is =
      let entry : print_entry ≡ e = cc in
      let named : codes "print" ≡ x = (bytes_eq-Decides (codes "print") x).0 same in
      let P : Entry → Type 0 = λ w. val_at w.home (AddMod (codes "Rt") rt_env Empty) ≡ Some (image w.type) in
      ((sym (ap (λ (w : Entry). w.home) entry) ∙ ap (λ z. codes "Rt" ∷ z ∷ []) named), subst P entry refl)
  by false other is = cc

is_before_rt : (k : ℕ) → IsBefore k (codes "Rt")
is_before_rt k j b above low = refl

pub initial_homes : HomesBefore 1 initial
initial_homes x e found = (codes "Rt", x, (initial_only x e found).0, is_before_rt 1)

-- what is bound after all sources is kept
pub whole_kept : (ss : List Source) (ps : List (List SourceItem)) → suc (length ss) < 2 ^ 64 → AllLeavePrint ps → Kept (basis_after ss ps) (whole_env ss ps)
whole_kept ss ps low leave = kept_from 1 ss ps initial (AddMod (codes "Rt") rt_env Empty) (omega arith) initial_homes (λ x e found. (initial_only x e found).1) leave
