-- Look-ups where more is bound.
use Rattle.std.proofs.Common.{◌≡◌, ℕ, nat_eq, List, [], ◌∷◌, Option, Some, None, Bool, true, false, if◌then◌else◌, refl, sym, ap, subst}
use Rattle.sml_static.specs.declared.ty.VarKind.{VarKind}
use Rattle.mid_ast.specs.Tree.{Name, Part}
use Rattle.mid_typing.specs.Env.{Entry, Env, TyEntry, Vid, Empty, AddLocal, AddVid, AddType, AddMod, General, binder_at, binder_path, inside_or, into, is_same, local_at, mod_at, over, type_at, vid_at}
use Rattle.mid_typing.specs.MidTypes.{Member, within}
use Rattle.mid_typing.specs.More.{More}
use Rattle.mid_typing.specs.Patterns.{Binder, put_binders}

-- ---- more is bound

if_more : {A : Type 0} (b : Bool) (q o p : Option A) (a : A) → (o ≡ Some a → p ≡ Some a) → (if b then q else o) ≡ Some a → (if b then q else p) ≡ Some a
if_more true q o p a k e = e
if_more false q o p a k e = k e

inside_more : {A : Type 0} (r : Option Name) (look : Name → Option A) (o p : Option A) (a : A) → (o ≡ Some a → p ≡ Some a) → inside_or r look o ≡ Some a → inside_or r look p ≡ Some a
inside_more None look o p a k e = k e
inside_more (Some q) look o p a k e = e

pub more_local : (x : ℕ) (n : Part) (v : Entry) (g h : Env) → More g h → More (AddLocal x n v g) (AddLocal x n v h)
more_local x n v g h m = record {
  locals = λ y w. if_more (nat_eq y x) (Some v) (local_at y g) (local_at y h) w (m.locals y w);
  binders = λ q w. if_more (is_same q (binder_path n)) (Some v) (binder_at q g) (binder_at q h) w (m.binders q w);
  vids = m.vids;
  types = m.types;
  mods = m.mods;
}

pub more_vid : (p : Name) (v : Vid) (g h : Env) → More g h → More (AddVid p v g) (AddVid p v h)
more_vid p v g h m = record {
  locals = m.locals;
  binders = m.binders;
  vids = λ q w. if_more (is_same q p) (Some v) (vid_at q g) (vid_at q h) w (m.vids q w);
  types = m.types;
  mods = m.mods;
}

pub more_type : (p : Name) (t : TyEntry) (g h : Env) → More g h → More (AddType p t g) (AddType p t h)
more_type p t g h m = record {
  locals = m.locals;
  binders = m.binders;
  vids = m.vids;
  types = λ q w. if_more (is_same q p) (Some t) (type_at q g) (type_at q h) w (m.types q w);
  mods = m.mods;
}

pub more_mod : (x : Part) (b g h : Env) → More g h → More (AddMod x b g) (AddMod x b h)
more_mod x b g h m = record {
  locals = m.locals;
  binders = m.binders;
  vids = λ q w. inside_more (into x q) (λ r. vid_at r b) (vid_at q g) (vid_at q h) w (m.vids q w);
  types = λ q w. inside_more (into x q) (λ r. type_at r b) (type_at q g) (type_at q h) w (m.types q w);
  mods = λ q w. if_more (is_same q (x ∷ [])) (Some b) (inside_or (into x q) (λ r. mod_at r b) (mod_at q g)) (inside_or (into x q) (λ r. mod_at r b) (mod_at q h)) w (inside_more (into x q) (λ r. mod_at r b) (mod_at q g) (mod_at q h) w (m.mods q w));
}

pub more_binders : (n : ℕ) (vars : List VarKind) (bs : List Binder) (g h : Env) → More g h → More (put_binders n vars bs g) (put_binders n vars bs h)
more_binders n vars [] g h m = m
more_binders n vars (b ∷ bs) g h m =
    more_local b.number b.name (General n vars b.type) (put_binders n vars bs g) (put_binders n vars bs h) (more_binders n vars bs g h m)

pub more_within : (group : ℕ → VarKind) (n : ℕ) (own : List ℕ) (ms : List Member) (g h : Env) → More g h → More (within group n own ms g) (within group n own ms h)
more_within group n own [] g h m = m
more_within group n own (x ∷ ms) g h m =
    more_local x.number x.name _ (within group n own ms g) (within group n own ms h) (more_within group n own ms g h m)

pub more_over : (d g h : Env) → More g h → More (over d g) (over d h)
more_over Empty g h m = m
more_over (AddLocal x n v d) g h m = more_local x n v (over d g) (over d h) (more_over d g h m)
more_over (AddVid p v d) g h m = more_vid p v (over d g) (over d h) (more_over d g h m)
more_over (AddType p t d) g h m = more_type p t (over d g) (over d h) (more_over d g h m)
more_over (AddMod x b d) g h m = more_mod x b (over d g) (over d h) (more_over d g h m)

-- what is bound stays bound where more stands behind it
pub over_more : (g h : Env) → More g (over g h)
over_more Empty h = record { locals = λ x v e. absurd (cc e); binders = λ q v e. absurd (cc e); vids = λ q v e. absurd (cc e); types = λ q t e. absurd (cc e); mods = λ q b e. absurd (cc e) }
over_more (AddLocal x n v g) h = more_local x n v g (over g h) (over_more g h)
over_more (AddVid p v g) h = more_vid p v g (over g h) (over_more g h)
over_more (AddType p t g) h = more_type p t g (over g h) (over_more g h)
over_more (AddMod x b g) h = more_mod x b g (over g h) (over_more g h)

-- what holds of what is found holds where more is bound
pub found_more : {A : Type 0} (P : Option A → Type 0) → (P None → ⊥) → (o p : Option A) → ((a : A) → o ≡ Some a → p ≡ Some a) → P o → P p
found_more P none None p k h = absurd (none h)
found_more P none (Some a) p k h = subst P (sym (k a refl)) h

-- ---- one environment put over others

pub over-empty : (d : Env) → over d Empty ≡ d
over-empty Empty = refl
over-empty (AddLocal x n v d) = ap (AddLocal x n v) (over-empty d)
over-empty (AddVid p v d) = ap (AddVid p v) (over-empty d)
over-empty (AddType p t d) = ap (AddType p t) (over-empty d)
over-empty (AddMod x b d) = ap (AddMod x b) (over-empty d)

pub over-over : (d e g : Env) → over (over d e) g ≡ over d (over e g)
over-over Empty e g = refl
over-over (AddLocal x n v d) e g = ap (AddLocal x n v) (over-over d e g)
over-over (AddVid p v d) e g = ap (AddVid p v) (over-over d e g)
over-over (AddType p t d) e g = ap (AddType p t) (over-over d e g)
over-over (AddMod x b d) e g = ap (AddMod x b) (over-over d e g)
