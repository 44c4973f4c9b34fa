-- A `type` item as a whole: aliases, new variants and copies.
use Rattle.std.proofs.Common.{◌≡◌, ◌⊎◌, ℕ, zero, suc, ◌<◌, ◌≤◌, inl, inr, List, [], ◌∷◌, length, Option, Some, None, Bool, true, false, if◌then◌else◌, nat_eq, refl, sym, ap, ◌∙◌, subst, arith}
use Rattle.std.specs.Str.{bytes_eq}
use Rattle.std.proofs.lemmas.Bool.{eqb-true}
use Rattle.std.proofs.lemmas.Grind.{common_steps}
use Rattle.std.proofs.lemmas.Slice.Eq.{bytes_eq-Decides}
use Rattle.oc_ast.specs.Plain.{Bytes, Cons, Long, POTy, PTDef, Alias, Variant, TAt, TCon}
use Rattle.oc_typing.specs.Ty.{Ty, first_stamp}
use Rattle.oc_typing.specs.Env as env
use Rattle.oc_typing.specs.Env.{Env, TyEntry, Empty, AddType, in_module, type_at, type_of}
use Rattle.oc_typing.specs.Written.{Distinct}
use Rattle.oc_typing.specs.Definitions.{AreBelow, AreNew, DefsAre, EachBelow, EquationsEnd, IsIn, as_arguments, has_equation, name_of, names_in, put_cons, put_defs}
use Rattle.oc_steps.specs.Known.{Known, Nobody, with_cons, with_defs}
use Rattle.run_types.specs.Types as run
use Rattle.run_types.specs.Types.{World}
use Rattle.oc_sound.proofs.Declared.{AllMade, ConList, DefOf, FoundIn, InGroup, all_made, alone_cons, below_in, con_look, con_names, cons_first, def_of, entry_table, equation_in, fits_cons, knows, knows_same, look_in, mod_defs, names_read, row_none, stamp_of, stamped_meant, type_defs}
use Rattle.oc_sound.proofs.Fitting.{Each, NoneItselfAt, reads_first, type_is}
use Rattle.oc_sound.proofs.Meanings.{first_none}
use Rattle.oc_sound.proofs.Serving.{TypesAlone}
use Rattle.oc_sound.proofs.Tables.{Family, family_if}
use Rattle.oc_sound.specs.Rows.{ClosedTable, Includes, Table}
use Rattle.oc_sound.specs.Meant.{meant}
use Rattle.oc_sound.specs.Secure.{AllCapital, SecureDefs, names_defined, names_of}
use Rattle.oc_sound.specs.Words.{Among, Variants}
use Rattle.oc_sound.specs.Served.{ConIn, EntryFits, Fits, NoneItself, written_tys}

-- ---- by the order of equations: P holds of each entry of the group

abbrev Leads : Env → (TyEntry → Type 0) → Bytes → Type 0
Leads g P y = (e : TyEntry) → type_of y g ≡ Some e → P e

-- what holds of new variants, and of what the names of an equation lead to
record Order (P : TyEntry → Type 0) (g : Env) (ds : List PTDef) (ts : List TyEntry) (rank : Bytes → ℕ) : Type 0 where
  ends : EachBelow rank ds ds
  names : Distinct (names_defined ds)
  def : (d : PTDef) (t : TyEntry) → InGroup d t ds ts → DefOf g d t
  found : (y : Bytes) (e : TyEntry) → type_of y g ≡ Some e → FoundIn ds ts y e ⊎ P e
  long : (m y : Bytes) (q : Long) (e : TyEntry) → type_at (m ∷ y ∷ q) g ≡ Some e → P e
  new : (vs : List Bytes) (n : Bytes) (cs : Cons) (t : TyEntry) → InGroup (Variant vs n None cs) t ds ts → P t
  alias : (vs : List Bytes) (n : Bytes) (w : POTy) (t : TyEntry) → InGroup (Alias vs n w) t ds ts → Each (Leads g P) (names_in w) → P t

abbrev Before : (TyEntry → Type 0) → List PTDef → List TyEntry → (Bytes → ℕ) → ℕ → Type 0
Before P ds ts rank n = (d : PTDef) (t : TyEntry) → InGroup d t ds ts → rank (name_of d) < n → P t

found_def : (P : TyEntry → Type 0) (g : Env) (ds : List PTDef) (ts : List TyEntry) (rank : Bytes → ℕ) → Order P g ds ts rank → (n r : ℕ) → Before P ds ts rank n → r < suc n → (y : Bytes) → (has_equation y ds ≡ true → rank y < r) → (d : PTDef) (e : TyEntry) → InGroup d e ds ts → name_of d ≡ y → P e
found_def P g ds ts rank o n r b l y h (Variant vs x None cs) e i q = o.new vs x cs e i
found_def P g ds ts rank o n r b l y h (Alias vs x w) e i q =
    let k : rank y < r = h (ap (λ z. has_equation z ds) (sym q) ∙ equation_in (Alias vs x w) e ds ts o.names i) in
    b (Alias vs x w) e i (low (rank x) (rank y) r n (ap rank q) k l)
  where
    low : (i j m k : ℕ) → i ≡ j → j < m → m < suc k → i < k
    low i j m k p u v = omega (arith, p, u, v)
found_def P g ds ts rank o n r b l y h (Variant vs x (Some w) cs) e i q =
    let k : rank y < r = h (ap (λ z. has_equation z ds) (sym q) ∙ equation_in (Variant vs x (Some w) cs) e ds ts o.names i) in
    b (Variant vs x (Some w) cs) e i (low (rank x) (rank y) r n (ap rank q) k l)
  where
    low : (i j m k : ℕ) → i ≡ j → j < m → m < suc k → i < k
    low i j m k p u v = omega (arith, p, u, v)

name_leads : (P : TyEntry → Type 0) (g : Env) (ds : List PTDef) (ts : List TyEntry) (rank : Bytes → ℕ) → Order P g ds ts rank → (n r : ℕ) → Before P ds ts rank n → r < suc n → (y : Bytes) → (has_equation y ds ≡ true → rank y < r) → Leads g P y
name_leads P g ds ts rank o n r b l y h e q = by (o.found y e q)
  where
    by : FoundIn ds ts y e ⊎ P e → P e
    by (inl f) = found_def P g ds ts rank o n r b l y h f.0 e f.1 f.2
    by (inr p) = p

names_lead : (P : TyEntry → Type 0) (g : Env) (ds : List PTDef) (ts : List TyEntry) (rank : Bytes → ℕ) → Order P g ds ts rank → (n r : ℕ) → Before P ds ts rank n → r < suc n → (ys : List Bytes) → AreBelow rank ds r ys → Each (Leads g P) ys
names_lead P g ds ts rank o n r b l [] h = tt
names_lead P g ds ts rank o n r b l (y ∷ ys) h = (name_leads P g ds ts rank o n r b l y h.0, names_lead P g ds ts rank o n r b l ys h.1)

copy_leads : (P : TyEntry → Type 0) (g : Env) (ds : List PTDef) (ts : List TyEntry) (rank : Bytes → ℕ) → Order P g ds ts rank → (n r : ℕ) → Before P ds ts rank n → r < suc n → (vs : List Bytes) (q : Long) (t : TyEntry) → type_at q g ≡ Some t → AreBelow rank ds r (names_in (TAt (TCon (as_arguments vs) q))) → P t
copy_leads P g ds ts rank o n r b l vs [] t e h = absurd (cc e)
copy_leads P g ds ts rank o n r b l vs (y ∷ []) t e h = name_leads P g ds ts rank o n r b l y h.0 t e
copy_leads P g ds ts rank o n r b l vs (m ∷ y ∷ q) t e h = o.long m y q t e

next : (P : TyEntry → Type 0) (g : Env) (ds : List PTDef) (ts : List TyEntry) (rank : Bytes → ℕ) → Order P g ds ts rank → (n : ℕ) → Before P ds ts rank n → Before P ds ts rank (suc n)
next P g ds ts rank o n b (Variant vs x None cs) t i l = o.new vs x cs t i
next P g ds ts rank o n b (Alias vs x w) t i l = o.alias vs x w t i (names_lead P g ds ts rank o n (rank x) b l (names_in w) (below_in rank ds (Alias vs x w) t ds ts o.ends i))
next P g ds ts rank o n b (Variant vs x (Some w) cs) t i l =
    let m = o.def (Variant vs x (Some w) cs) t i in
    copy_leads P g ds ts rank o n (rank x) b l vs m.0 t m.2 (subst (λ z. AreBelow rank ds (rank x) (names_in z)) m.1 (below_in rank ds (Variant vs x (Some w) cs) t ds ts o.ends i))

before : (P : TyEntry → Type 0) (g : Env) (ds : List PTDef) (ts : List TyEntry) (rank : Bytes → ℕ) → Order P g ds ts rank → (n : ℕ) → Before P ds ts rank n
before P g ds ts rank o zero d t i l = absurd (omega (arith, l))
before P g ds ts rank o (suc n) d t i l = next P g ds ts rank o n (before P g ds ts rank o n) d t i l

each_entry : (P : TyEntry → Type 0) (g : Env) (ds : List PTDef) (ts : List TyEntry) (rank : Bytes → ℕ) → Order P g ds ts rank → (d : PTDef) (t : TyEntry) → InGroup d t ds ts → P t
each_entry P g ds ts rank o d t i = before P g ds ts rank o (suc (rank (name_of d))) d t i (own (rank (name_of d)))
  where
    own : (m : ℕ) → m < suc m
    own m = omega arith

-- ---- new variants and their table

abbrev New : World → List PTDef → List TyEntry → Type 0
New w ds ts =
    (vs : List Bytes) (n : Bytes) (cs : Cons) (t : TyEntry) → InGroup (Variant vs n None cs) t ds ts
    → (first_stamp ≤ stamp_of t.body) × ((x : Bytes) (a : Option Ty) → ConIn x a t.cons → w.datas (stamp_of t.body) true x ≡ Some (written_tys a))

-- the stamps of the table
entry_stamp : (g : Env) (ds : List PTDef) (ss : List ℕ) (ts : List TyEntry) (s : ℕ) (n : Bytes) (args : run.Tys) → AllMade g ds ss ts → entry_table ds ts s n ≡ Some args → IsIn s ss
entry_stamp g [] ss ts s n args m e = absurd (cc e)
entry_stamp g (Alias vs x w ∷ ds) ss ts s n args m e = entry_stamp g ds ss m.1 s n args m.4 (ap (λ us. entry_table (Alias vs x w ∷ ds) us s n) (sym m.5) ∙ e)
entry_stamp g (Variant vs x (Some w) cs ∷ ds) ss ts s n args m e = entry_stamp g ds ss m.1 s n args m.6 (ap (λ us. entry_table (Variant vs x (Some w) cs ∷ ds) us s n) (sym m.7) ∙ e)
entry_stamp g (Variant vs x None cs ∷ ds) ss ts s n args m e =
    subst (IsIn s) (sym m.6) (by (nat_eq (stamp_of (m.2).body) s) refl (ap (λ us. entry_table (Variant vs x None cs ∷ ds) us s n) (sym m.7) ∙ e) (entry_stamp g ds m.1 m.3 s n args m.5))
  where
    by : (b : Bool) → nat_eq (stamp_of (m.2).body) s ≡ b → (if b then con_look (m.2).cons n else entry_table ds m.3 s n) ≡ Some args → (entry_table ds m.3 s n ≡ Some args → IsIn s m.1) → (s ≡ m.0) ⊎ IsIn s m.1
    by true p q f = inl (sym (eqb-true (stamp_of (m.2).body) s p) ∙ ap stamp_of (m.4).body)
    by false p q f = inr (f q)

abbrev IsNew : World → TyEntry → Type 0
IsNew w t = (first_stamp ≤ stamp_of t.body) × ((x : Bytes) (a : Option Ty) → ConIn x a t.cons → w.datas (stamp_of t.body) true x ≡ Some (written_tys a))

new_later : (w : World) (d : PTDef) (ds : List PTDef) (u : TyEntry) (us : List TyEntry) → ((vs : List Bytes) (x : Bytes) (cs : Cons) (t : TyEntry) → Variant vs x None cs ≡ d → t ≡ u → IsNew w t) → New w ds us → New w (d ∷ ds) (u ∷ us)
new_later w d ds u us f rest vs x cs t (inl j) = f vs x cs t j.0 j.1
new_later w d ds u us f rest vs x cs t (inr j) = rest vs x cs t j

has_new : (kinds : Variants) (g : Env) (c e : ℕ) (w : World) (T : Table) (ds : List PTDef) (ss : List ℕ) (ts : List TyEntry) → first_stamp ≤ c → SecureDefs kinds ds → AllMade g ds ss ts → AreNew c e ss → Includes c e T w → ((s : ℕ) (n : Bytes) (args : run.Tys) → entry_table ds ts s n ≡ Some args → T s n ≡ Some args) → New w ds ts
has_new kinds g c e w T [] ss ts l h m n i f = λ vs x cs t j. absurd j
has_new kinds g c e w T (Alias us y o ∷ ds) ss ts l h m n i f =
    subst (New w (Alias us y o ∷ ds)) (sym m.5)
    (new_later w (Alias us y o) ds m.0 m.1 (λ vs x cs t p q. absurd (cc p)) (has_new kinds g c e w T ds ss m.1 l h m.4 n i (λ s z args q. f s z args (ap (λ vs. entry_table (Alias us y o ∷ ds) vs s z) m.5 ∙ q))))
has_new kinds g c e w T (Variant us y (Some o) ks ∷ ds) ss ts l h m n i f =
    subst (New w (Variant us y (Some o) ks ∷ ds)) (sym m.7)
    (new_later w (Variant us y (Some o) ks) ds m.0 m.1 (λ vs x cs t p q. absurd (cc p)) (has_new kinds g c e w T ds ss m.1 l h.1 m.6 n i (λ s z args q. f s z args (ap (λ vs. entry_table (Variant us y (Some o) ks ∷ ds) vs s z) m.7 ∙ q))))
has_new kinds g c e w T (Variant us y None ks ∷ ds) ss ts l h m n i f =
    subst (New w (Variant us y None ks ∷ ds)) (sym m.7)
    (new_later w (Variant us y None ks) ds u m.3 here (has_new kinds g c e w T ds m.1 m.3 l h.3 m.5 new.3 i (λ s z args q. f s z args (ap (λ vs. entry_table (Variant us y None ks ∷ ds) vs s z) m.7 ∙ other s z args q))))
  where
    new : AreNew c e (m.0 ∷ m.1)
    new = subst (AreNew c e) m.6 n

    u : TyEntry
    u = m.2

    eq : stamp_of u.body ≡ m.0
    eq = ap stamp_of (m.4).body

    self : (a : ℕ) → nat_eq a a ≡ true
    self a = grind (arith, common_steps)

    low : (j k s : ℕ) → j ≤ k → k ≤ s → j ≤ s
    low j k s p q = omega (arith, p, q)

    own : (x : Bytes) (a : Option Ty) → ConIn x a u.cons → w.datas (stamp_of u.body) true x ≡ Some (written_tys a)
    own x a k =
        i (stamp_of u.body) x (written_tys a) (subst (λ z. c ≤ z) (sym eq) new.0) (subst (λ z. z < e) (sym eq) new.1)
        (f (stamp_of u.body) x (written_tys a) (ap (λ vs. entry_table (Variant us y None ks ∷ ds) vs (stamp_of u.body) x) m.7
        ∙ (ap (λ b. if b then con_look u.cons x else entry_table ds m.3 (stamp_of u.body) x) (self (stamp_of u.body)) ∙ look_in x a u.cons (subst Distinct (sym (names_read us g ks u.cons (m.4).read)) h.1) k)))

    other : (s : ℕ) (x : Bytes) (args : run.Tys) → entry_table ds m.3 s x ≡ Some args → entry_table (Variant us y None ks ∷ ds) (u ∷ m.3) s x ≡ Some args
    other s x args q = at (nat_eq (stamp_of u.body) s) refl
      where
        at : (b : Bool) → nat_eq (stamp_of u.body) s ≡ b → (if b then con_look u.cons x else entry_table ds m.3 s x) ≡ Some args
        at false p = q
        at true p = absurd (new.2 (subst (λ z. IsIn z m.1) (sym (eqb-true (stamp_of u.body) s p) ∙ eq) (entry_stamp g ds m.1 m.3 s x args m.5 q)))

    here : (vs : List Bytes) (x : Bytes) (cs : Cons) (t : TyEntry) → Variant vs x None cs ≡ Variant us y None ks → t ≡ u → IsNew w t
    here vs x cs t p q = subst (IsNew w) (sym q) (subst (λ z. first_stamp ≤ z) (sym eq) (low first_stamp c m.0 l new.0), own)

look_among : (n : Bytes) (cs : ConList) (args : run.Tys) → con_look cs n ≡ Some args → Among n (con_names cs)
look_among n [] args e = absurd (cc e)
look_among n (c ∷ cs) args e = by (bytes_eq n c.0) refl e (look_among n cs args)
  where
    by : (b : Bool) → bytes_eq n c.0 ≡ b → (if b then Some (written_tys c.1) else con_look cs n) ≡ Some args → (con_look cs n ≡ Some args → Among n (con_names cs)) → (n ≡ c.0) ⊎ Among n (con_names cs)
    by true q h f = inl ((bytes_eq-Decides n c.0).0 q)
    by false q h f = inr (f h)

entries_closed : (kinds : Variants) (g : Env) (ds : List PTDef) (ss : List ℕ) (ts : List TyEntry) → SecureDefs kinds ds → AllMade g ds ss ts → (s : ℕ) (n : Bytes) (args : run.Tys) → entry_table ds ts s n ≡ Some args → Family kinds (entry_table ds ts s) n
entries_closed kinds g [] ss ts h m s n args e = absurd (cc e)
entries_closed kinds g (Alias vs x w ∷ ds) ss ts h m s n args e =
    subst (λ us. Family kinds (entry_table (Alias vs x w ∷ ds) us s) n) (sym m.5) (entries_closed kinds g ds ss m.1 h m.4 s n args (ap (λ us. entry_table (Alias vs x w ∷ ds) us s n) (sym m.5) ∙ e))
entries_closed kinds g (Variant vs x (Some w) cs ∷ ds) ss ts h m s n args e =
    subst (λ us. Family kinds (entry_table (Variant vs x (Some w) cs ∷ ds) us s) n) (sym m.7) (entries_closed kinds g ds ss m.1 h.1 m.6 s n args (ap (λ us. entry_table (Variant vs x (Some w) cs ∷ ds) us s n) (sym m.7) ∙ e))
entries_closed kinds g (Variant vs x None cs ∷ ds) ss ts h m s n args e =
    subst (λ us. Family kinds (entry_table (Variant vs x None cs ∷ ds) us s) n) (sym m.7)
    (family_if kinds (nat_eq (stamp_of t.body) s) (con_look t.cons) (entry_table ds m.3 s) n args
    (λ q. (names_of cs, h.0, own n args q, own)) (entries_closed kinds g ds m.1 m.3 h.3 m.5 s n args) (ap (λ us. entry_table (Variant vs x None cs ∷ ds) us s n) (sym m.7) ∙ e))
  where
    t : TyEntry
    t = m.2

    own : (y : Bytes) (us : run.Tys) → con_look t.cons y ≡ Some us → Among y (names_of cs)
    own y us q = subst (Among y) (names_read vs g cs t.cons (m.4).read) (look_among y t.cons us q)

pub defs_closed : (kinds : Variants) (g : Env) (ds : List PTDef) (ss : List ℕ) (ts : List TyEntry) → SecureDefs kinds ds → DefsAre g ds ss ts → ClosedTable kinds (entry_table ds ts)
defs_closed kinds g ds ss ts h r = entries_closed kinds g ds ss ts h (all_made g ds ss ts r)

-- ---- the definitions put over an environment

abbrev AllFit : World → List PTDef → List TyEntry → Type 0
AllFit w ds ts = (d : PTDef) (t : TyEntry) → InGroup d t ds ts → EntryFits w t

no_names : (ks : ConList) → ks ≡ [] → AllCapital (con_names ks)
no_names ks e = subst (λ z. AllCapital (con_names z)) (sym e) tt

alone_one : (w : World) (n : Bytes) (t : TyEntry) (d : Env) → EntryFits w t → AllCapital (con_names t.cons) → TypesAlone d → TypesAlone (put_cons t.body t.cons (AddType n t d))
alone_one w n t d f c a = alone_cons w t.body t.cons (AddType n t d) c f.1 (f.0, a)

alone_defs : (kinds : Variants) (w : World) (g : Env) (ds : List PTDef) (ss : List ℕ) (ts : List TyEntry) (d : Env) → SecureDefs kinds ds → AllMade g ds ss ts → AllFit w ds ts → TypesAlone d → TypesAlone (put_defs ds ts d)
alone_defs kinds w g [] ss ts d h m f a = a
alone_defs kinds w g (Alias vs x o ∷ ds) ss ts d h m f a =
    let k = subst (AllFit w (Alias vs x o ∷ ds)) m.5 f in
    subst (λ us. TypesAlone (put_defs (Alias vs x o ∷ ds) us d)) (sym m.5)
    (alone_defs kinds w g ds ss m.1 (put_cons (m.0).body (m.0).cons (AddType x m.0 d)) h m.4 (λ e t i. k e t (inr i)) (alone_one w x m.0 d (k (Alias vs x o) m.0 (inl (refl, refl))) (no_names (m.0).cons m.3) a))
alone_defs kinds w g (Variant vs x None cs ∷ ds) ss ts d h m f a =
    let k = subst (AllFit w (Variant vs x None cs ∷ ds)) m.7 f in
    subst (λ us. TypesAlone (put_defs (Variant vs x None cs ∷ ds) us d)) (sym m.7)
    (alone_defs kinds w g ds m.1 m.3 (put_cons (m.2).body (m.2).cons (AddType x m.2 d)) h.3 m.5 (λ e t i. k e t (inr i))
    (alone_one w x m.2 d (k (Variant vs x None cs) m.2 (inl (refl, refl))) (subst AllCapital (sym (names_read vs g cs (m.2).cons (m.4).read)) h.2) a))
alone_defs kinds w g (Variant vs x (Some o) cs ∷ ds) ss ts d h m f a =
    let k = subst (AllFit w (Variant vs x (Some o) cs ∷ ds)) m.7 f in
    subst (λ us. TypesAlone (put_defs (Variant vs x (Some o) cs ∷ ds) us d)) (sym m.7)
    (alone_defs kinds w g ds ss m.1 (put_cons (m.0).body (m.0).cons (AddType x m.0 d)) h.1 m.6 (λ e t i. k e t (inr i))
    (alone_one w x m.0 d (k (Variant vs x (Some o) cs) m.0 (inl (refl, refl))) (subst AllCapital (sym (names_read vs g cs (m.0).cons m.5)) h.0) a))

fits_one : (w : World) (n : Bytes) (t : TyEntry) (k j : Known) (d : Env) → knows t.cons k ≡ j → EntryFits w t → Fits w k d → Fits w j (put_cons t.body t.cons (AddType n t d))
fits_one w n t k j d e f a = subst (λ i. Fits w i (put_cons t.body t.cons (AddType n t d))) e (fits_cons w t.body t.cons k (AddType n t d) f.1 (f, a))

fits_defs : (w : World) (g : Env) (ds : List PTDef) (ss : List ℕ) (ts : List TyEntry) (k : Known) (d : Env) → AllMade g ds ss ts → AllFit w ds ts → Fits w k d → Fits w (with_defs ds k) (put_defs ds ts d)
fits_defs w g [] ss ts k d m f a = a
fits_defs w g (Alias vs x o ∷ ds) ss ts k d m f a =
    let j = subst (AllFit w (Alias vs x o ∷ ds)) m.5 f in
    subst (λ us. Fits w (with_defs ds k) (put_defs (Alias vs x o ∷ ds) us d)) (sym m.5)
    (fits_defs w g ds ss m.1 k (put_cons (m.0).body (m.0).cons (AddType x m.0 d)) m.4 (λ e t i. j e t (inr i)) (fits_one w x m.0 k k d (ap (λ cs. knows cs k) m.3) (j (Alias vs x o) m.0 (inl (refl, refl))) a))
fits_defs w g (Variant vs x None cs ∷ ds) ss ts k d m f a =
    let j = subst (AllFit w (Variant vs x None cs ∷ ds)) m.7 f in
    subst (λ us. Fits w (with_defs ds (with_cons cs k)) (put_defs (Variant vs x None cs ∷ ds) us d)) (sym m.7)
    (fits_defs w g ds m.1 m.3 (with_cons cs k) (put_cons (m.2).body (m.2).cons (AddType x m.2 d)) m.5 (λ e t i. j e t (inr i))
    (fits_one w x m.2 k (with_cons cs k) d (knows_same (m.2).cons cs k (names_read vs g cs (m.2).cons (m.4).read)) (j (Variant vs x None cs) m.2 (inl (refl, refl))) a))
fits_defs w g (Variant vs x (Some o) cs ∷ ds) ss ts k d m f a =
    let j = subst (AllFit w (Variant vs x (Some o) cs ∷ ds)) m.7 f in
    subst (λ us. Fits w (with_defs ds (with_cons cs k)) (put_defs (Variant vs x (Some o) cs ∷ ds) us d)) (sym m.7)
    (fits_defs w g ds ss m.1 (with_cons cs k) (put_cons (m.0).body (m.0).cons (AddType x m.0 d)) m.6 (λ e t i. j e t (inr i))
    (fits_one w x m.0 k (with_cons cs k) d (knows_same (m.0).cons cs k (names_read vs g cs (m.0).cons m.5)) (j (Variant vs x (Some o) cs) m.0 (inl (refl, refl))) a))

-- ---- the item as a whole

pub record DefsGood (w : World) (d : Env) (ds : List PTDef) : Type 0 where
  pub fits : Fits w (with_defs ds Nobody) d
  pub alone : TypesAlone d

pub defs_good : (kinds : Variants) (w : World) (k : Known) (g : Env) (c e : ℕ) (ds : List PTDef) (ss : List ℕ) (ts : List TyEntry) → first_stamp ≤ c → Fits w k g → Distinct (names_defined ds) → SecureDefs kinds ds → EquationsEnd ds → DefsAre (env.over (put_defs ds ts Empty) g) ds ss ts → AreNew c e ss → Includes c e (entry_table ds ts) w → DefsGood w (put_defs ds ts Empty) ds
defs_good kinds w k g c e ds ss ts l h u s end r n i =
    record { fits = fits_defs w g2 ds ss ts Nobody Empty m fit refl; alone = alone_defs kinds w g2 ds ss ts Empty s m fit tt }
  where
    g2 : Env
    g2 = env.over (put_defs ds ts Empty) g

    m : AllMade g2 ds ss ts
    m = all_made g2 ds ss ts r

    def : (d : PTDef) (t : TyEntry) → InGroup d t ds ts → DefOf g2 d t
    def = def_of g2 ds ss ts m

    look : (y : Bytes) (t : TyEntry) → type_of y g2 ≡ Some t → FoundIn ds ts y t ⊎ EntryFits w t
    look y t q = by (type_defs y ds ts Empty g t q)
      where
        by : FoundIn ds ts y t ⊎ (type_of y g ≡ Some t) → FoundIn ds ts y t ⊎ EntryFits w t
        by (inl f) = inl f
        by (inr f) = inr (type_is w (y ∷ []) k g t h f)

    path : (a y : Bytes) (q : Long) (t : TyEntry) → type_at (a ∷ y ∷ q) g2 ≡ Some t → EntryFits w t
    path a y q t p = type_is w (a ∷ y ∷ q) k g t h (sym (ap (λ o. in_module (λ b. type_at (y ∷ q) b) o) (mod_defs a ds ts Empty g)) ∙ p)

    first : (y : Bytes) (t : TyEntry) → FoundIn ds ts y t ⊎ EntryFits w t → FoundIn ds ts y t ⊎ NoneItself t.body
    first y t (inl f) = inl f
    first y t (inr f) = inr f.0

    none_order : Order (λ t. NoneItself t.body) g2 ds ts end.0
    none_order =
        record {
          ends = end.1;
          names = u;
          def = def;
          found = λ y t q. first y t (look y t q);
          long = λ a y q t p. (path a y q t p).0;
          new = λ vs x cs t j. let d = def (Variant vs x None cs) t j in subst NoneItself (sym (d.1).body) (row_none (length vs) 0);
          alias = λ vs x o t j f. first_none (length vs) t.body (reads_first vs g2 (λ a y q b p. (path a y q b p).0) o t.body f (def (Alias vs x o) t j).0);
        }

    none : (d : PTDef) (t : TyEntry) → InGroup d t ds ts → NoneItself t.body
    none = each_entry (λ t. NoneItself t.body) g2 ds ts end.0 none_order

    itself : NoneItselfAt g2
    itself [] t q = absurd (cc q)
    itself (y ∷ []) t q = by (look y t q)
      where
        by : FoundIn ds ts y t ⊎ EntryFits w t → NoneItself t.body
        by (inl f) = none f.0 t f.1
        by (inr f) = f.0
    itself (a ∷ y ∷ p) t q = (path a y p t q).0

    news : New w ds ts
    news = has_new kinds g2 c e w (entry_table ds ts) ds ss ts l s m n i (λ a x args q. q)

    new : (vs : List Bytes) (x : Bytes) (cs : Cons) (t : TyEntry) → InGroup (Variant vs x None cs) t ds ts → EntryFits w t
    new vs x cs t j =
        let d = def (Variant vs x None cs) t j in
        let b = news vs x cs t j in
        let eq : stamp_of t.body ≡ d.0 = ap stamp_of (d.1).body in (
          none (Variant vs x None cs) t j,
          λ y a v.
              (length vs, d.0, (λ f1 f2. ap (meant f1 f2) (d.1).body ∙ stamped_meant d.0 (length vs) (subst (λ z. first_stamp ≤ z) eq b.0) f1 f2), cons_first vs g2 itself cs t.cons (d.1).read y a v, subst (λ z. w.datas z true y ≡ Some (written_tys a)) eq (b.1 y a v)),
        )

    alias : (vs : List Bytes) (x : Bytes) (o : POTy) (t : TyEntry) → InGroup (Alias vs x o) t ds ts → Each (Leads g2 (EntryFits w)) (names_in o) → EntryFits w t
    alias vs x o t j f = (none (Alias vs x o) t j, λ y a v. absurd (subst (ConIn y a) (def (Alias vs x o) t j).1 v))

    fit : AllFit w ds ts
    fit = each_entry (EntryFits w) g2 ds ts end.0 (record { ends = end.1; names = u; def = def; found = look; long = path; new = new; alias = alias })
