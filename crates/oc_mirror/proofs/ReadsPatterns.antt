-- The marks of definitions of types, of patterns and of signatures are decoded to them.
use Rattle.std.proofs.Common.{◌≡◌, ℕ, zero, suc, ◌+◌, ◌≤◌, Bool, true, false, ◌&&◌, ◌||◌, List, [], ◌∷◌, Option, Some, None, refl, sym, ap, subst, ◌∙◌, arith}
use Rattle.std.specs.Prelude.{codes}
use Rattle.oc_ast.specs.declared.literal.OcLit.{OcLit}
use Rattle.oc_ast.specs.Plain.{Bytes, Long, PATy, NoATys, MoreATys, POTy, NoTys, MoreTys, TVar, TCon, TParen, TAt, TArrow, TTuple, Cons, PTDef, Alias, Variant, PAPat, Any, PVar, PConst, PCon, PUnit, PParen, PTuple, PNil, PCell, PAPats, NoPats, MorePats, PPat, PAt, PBuild, PCons, PAs}
use Rattle.oc_mirror.proofs.Marks.{Mark, Marks, KAnd, KAs, KOf, Low, Up, Lt, Round, Closed, Square, Unsquare, Curly, Uncurly, Dot, Equal, Arrow, Bar, Under, Star, Pair}
use Rattle.oc_rules.specs.Bytes.{is_only}
use Rattle.oc_rules.specs.Allowed as allowed
use Rattle.oc_rules.specs.Allowed.{is_low, is_cap, ends_in, is_type, is_constructor, all_tyvars}
use Rattle.oc_rules.proofs.Tests.{never, and_true, same_is}
use Rattle.oc_mirror.proofs.Marks.{nm, m_more_path, m_path, m_params, m_part, m_type, m_factors, m_cons, m_more_cons, m_variants, m_definition, m_more_definitions, m_definitions, m_apat, m_more_apats, m_pat}
use Rattle.oc_mirror.proofs.Decode.{p_long, p_arg, p_cons_of, p_more_cons, p_variants, is_variants, p_second, p_right, p_definition, p_more_definitions, p_definitions, p_apat, p_pround, p_pclose, p_more_apats, p_pat, p_pafter, behind, first_name, name_of}
use Rattle.oc_mirror.proofs.Names.{low_mark, cap_mark, undotted, path_done, constructor_path, params_done}
use Rattle.oc_mirror.proofs.ReadsTypes.{s_part, s_type, part_stop, type_stop, part_undotted, type_part, part_alone, type_done}

-- ---- constructors and definitions of types

abbrev pub s_arg : Option PATy → ℕ
s_arg None = 0
s_arg (Some t) = s_part t

abbrev pub s_cons : Cons → ℕ
s_cons [] = 0
s_cons (c ∷ cs) = s_arg c.1 + s_cons cs + 3

abbrev pub s_manifest : Option POTy → ℕ
s_manifest None = 0
s_manifest (Some t) = s_type t

abbrev pub s_def : PTDef → ℕ
s_def (Alias vs n t) = s_type t + 3
s_def (Variant vs n t cs) = s_manifest t + s_cons cs + 3

abbrev pub s_defs : List PTDef → ℕ
s_defs [] = 0
s_defs (d ∷ ds) = s_def d + s_defs ds + 3

-- what may follow a constructor, and a definition
abbrev pub cons_stop : Marks → Bool
cons_stop (Low x ∷ s) = false
cons_stop (Up x ∷ s) = false
cons_stop (Dot ∷ s) = false
cons_stop (KOf ∷ s) = false
cons_stop s = true

abbrev pub def_stop : Marks → Bool
def_stop (Low x ∷ s) = false
def_stop (Up x ∷ s) = false
def_stop (Dot ∷ s) = false
def_stop (KOf ∷ s) = false
def_stop (Arrow ∷ s) = false
def_stop (Star ∷ s) = false
def_stop (Bar ∷ s) = false
def_stop (Equal ∷ s) = false
def_stop s = true

cons_part : (r : Marks) → cons_stop r ≡ true → part_stop r ≡ true
cons_part [] h = refl
cons_part (Low x ∷ s) h = absurd (never h)
cons_part (Up x ∷ s) h = absurd (never h)
cons_part (Dot ∷ s) h = absurd (never h)
cons_part (k ∷ s) h = refl

pub def_cons : (r : Marks) → def_stop r ≡ true → cons_stop r ≡ true
def_cons [] h = refl
def_cons (Low x ∷ s) h = absurd (never h)
def_cons (Up x ∷ s) h = absurd (never h)
def_cons (Dot ∷ s) h = absurd (never h)
def_cons (KOf ∷ s) h = absurd (never h)
def_cons (k ∷ s) h = refl

pub def_type : (r : Marks) → def_stop r ≡ true → type_stop r ≡ true
def_type [] h = refl
def_type (Low x ∷ s) h = absurd (never h)
def_type (Up x ∷ s) h = absurd (never h)
def_type (Dot ∷ s) h = absurd (never h)
def_type (Arrow ∷ s) h = absurd (never h)
def_type (Star ∷ s) h = absurd (never h)
def_type (k ∷ s) h = refl

arg_stop : (n : ℕ) (r : Marks) → cons_stop r ≡ true → p_arg n r ≡ (None, r)
arg_stop n [] h = refl
arg_stop n (KOf ∷ s) h = absurd (never h)
arg_stop n (k ∷ s) h = refl

more_cons_stop : (m n : ℕ) (r : Marks) → def_stop r ≡ true → p_more_cons m n r ≡ ([], r)
more_cons_stop zero n r h = refl
more_cons_stop (suc m) n [] h = refl
more_cons_stop (suc m) n (Bar ∷ s) h = absurd (never h)
more_cons_stop (suc m) n (k ∷ s) h = refl

cons_next : (cs : Cons) (r : Marks) → def_stop r ≡ true → cons_stop (m_more_cons cs r) ≡ true
cons_next [] r h = def_cons r h
cons_next (c ∷ cs) r h = refl

pub cons_done : (x : Bytes) (t : Option PATy) → allowed.Constructor x t → (n : ℕ) → s_arg t ≤ n → (r : Marks) → cons_stop r ≡ true → p_cons_of n (m_cons x t r) ≡ ((x, t), r)
cons_done x None h n le r s =
    ap (λ (z : Option PATy × Marks). ((name_of (nm x), z.0), z.1)) (arg_stop n r s) ∙ ap (λ (k : Mark). ((name_of k, None), r)) (cap_mark x h)
cons_done x (Some t) (h, g) n le r s =
    ap (λ (z : PATy × Marks). ((name_of (nm x), Some z.0), z.1)) (part_alone t g n le r (cons_part r s)) ∙ ap (λ (k : Mark). ((name_of k, Some t), r)) (cap_mark x h)

abbrev with_more : ℕ → ℕ → (Bytes × Option PATy) × Marks → Cons × Marks
with_more m n c = (c.0 ∷ (p_more_cons m n c.1).0, (p_more_cons m n c.1).1)

more_cons_done : (cs : Cons) → allowed.EachConstructor cs → (m n : ℕ) → s_cons cs ≤ m → s_cons cs ≤ n → (r : Marks) → def_stop r ≡ true → p_more_cons m n (m_more_cons cs r) ≡ (cs, r)
more_cons_done [] h m n le lf r s = more_cons_stop m n r s
more_cons_done (c ∷ cs) h zero n le lf r s = absurd (omega (arith, le))
more_cons_done (c ∷ cs) (h, g) (suc m) n le lf r s =
    ap (with_more m n) (cons_done c.0 c.1 h n (omega (arith, lf)) (m_more_cons cs r) (cons_next cs r s)) ∙ ap (λ (z : Cons × Marks). (c ∷ z.0, z.1)) (more_cons_done cs g m n (omega (arith, le)) (omega (arith, lf)) r s)

pub variants_done : (c : Bytes × Option PATy) (cs : Cons) → allowed.EachConstructor (c ∷ cs) → (n : ℕ) → s_cons (c ∷ cs) ≤ n → (r : Marks) → def_stop r ≡ true → p_variants n (m_variants (c ∷ cs) r) ≡ (c ∷ cs, r)
variants_done c cs (h, g) n le r s =
    ap (with_more n n) (cons_done c.0 c.1 h n (omega (arith, le)) (m_more_cons cs r) (cons_next cs r s)) ∙ ap (λ (z : Cons × Marks). (c ∷ z.0, z.1)) (more_cons_done cs g n n (omega (arith, le)) (omega (arith, le)) r s)

-- ---- constructors begin otherwise than types

after_cons : (cs : Cons) (r : Marks) → def_stop r ≡ true → undotted (m_more_cons cs r) ≡ true
after_cons [] r h = part_undotted r (type_part r (def_type r h))
after_cons (c ∷ cs) r h = refl

up_variants : (x : Bytes) (s : Marks) → undotted s ≡ true → is_variants (Up x ∷ s) ≡ true
up_variants x [] h = refl
up_variants x (Dot ∷ s) h = absurd (never h)
up_variants x (k ∷ s) h = refl

variants_are : (c : Bytes × Option PATy) (cs : Cons) → allowed.EachConstructor (c ∷ cs) → (r : Marks) → def_stop r ≡ true → is_variants (m_variants (c ∷ cs) r) ≡ true
variants_are c cs (h, g) r s = go c.0 c.1 h
  where
    go : (x : Bytes) (t : Option PATy) → allowed.Constructor x t → is_variants (m_cons x t (m_more_cons cs r)) ≡ true
    go x None h = ap (λ (k : Mark). is_variants (k ∷ m_more_cons cs r)) (cap_mark x h) ∙ up_variants x (m_more_cons cs r) (after_cons cs r s)
    go x (Some t) (h, i) = ap (λ (k : Mark). is_variants (k ∷ KOf ∷ m_part t (m_more_cons cs r))) (cap_mark x h)

path_is_type : (q : Long) (r : Marks) → is_type q ≡ true → is_variants (m_path q r) ≡ false
path_is_type [] r h = absurd cc
path_is_type (n ∷ []) r h = ap (λ (k : Mark). is_variants (k ∷ r)) (low_mark n h)
path_is_type (n ∷ m ∷ q) r h = ap (λ (k : Mark). is_variants (k ∷ m_more_path (m ∷ q) r)) (cap_mark n (and_true (is_cap n) (ends_in is_low (m ∷ q)) h).0)

part_is_type : (t : PATy) → allowed.Part t → (r : Marks) → is_variants (m_part t r) ≡ false
part_is_type (TVar v) h r = refl
part_is_type (TCon NoTys q) h r = path_is_type q r h.1
part_is_type (TCon (MoreTys (TAt t) NoTys) q) h r = part_is_type t h.0 (m_path q r)
part_is_type (TCon (MoreTys (TArrow t u) NoTys) q) h r = absurd h.0
part_is_type (TCon (MoreTys (TTuple t us) NoTys) q) h r = absurd h.0
part_is_type (TCon (MoreTys t (MoreTys u us)) q) h r = refl
part_is_type (TParen t) h r = refl

type_is_type : (t : POTy) → allowed.TypeOf t → (r : Marks) → is_variants (m_type t r) ≡ false
type_is_type (TAt t) h r = part_is_type t h r
type_is_type (TArrow t u) h r = part_is_type t h.0 (Arrow ∷ m_type u r)
type_is_type (TTuple t NoATys) h r = absurd h
type_is_type (TTuple t (MoreATys u us)) h r = part_is_type t h.0 (m_factors (MoreATys u us) r)

second_stop : (n : ℕ) (vs : List Bytes) (x : Bytes) (t : POTy) (r : Marks) → def_stop r ≡ true → p_second n vs x (t, r) ≡ (Alias vs x t, r)
second_stop n vs x t [] h = refl
second_stop n vs x t (Equal ∷ s) h = absurd (never h)
second_stop n vs x t (k ∷ s) h = refl

-- behind the parameters
abbrev from_params : ℕ → List Bytes × Marks → PTDef × Marks
from_params n z = p_right (is_variants (behind (behind z.1))) n z.0 (first_name z.1) (behind (behind z.1))

named_right : (n : ℕ) (vs : List Bytes) (x : Bytes) (s : Marks) → is_low x ≡ true → p_definition n (m_params vs (nm x ∷ Equal ∷ s)) ≡ p_right (is_variants s) n vs x s
named_right n vs x s h = ap (from_params n) (params_done vs x (Equal ∷ s) (low_mark x h)) ∙ ap (λ (k : Mark). p_right (is_variants s) n vs (name_of k) s) (low_mark x h)

pub definition_done : (d : PTDef) → allowed.Definition d → (n : ℕ) → s_def d ≤ n → (r : Marks) → def_stop r ≡ true → p_definition n (m_definition d r) ≡ (d, r)
definition_done (Alias vs x t) (h, g, i) n le r s =
    named_right n vs x (m_type t r) g ∙ (ap (λ (b : Bool). p_right b n vs x (m_type t r)) (type_is_type t i r) ∙ (ap (p_second n vs x) (type_done t i n (omega (arith, le)) r (def_type r s)) ∙ second_stop n vs x t r s))
definition_done (Variant vs x t []) h n le r s = absurd h
definition_done (Variant vs x None (c ∷ cs)) (h, g, i, j) n le r s =
    named_right n vs x (m_variants (c ∷ cs) r) g ∙ (ap (λ (b : Bool). p_right b n vs x (m_variants (c ∷ cs) r)) (variants_are c cs j r s) ∙ ap (λ (z : Cons × Marks). (Variant vs x None z.0, z.1)) (variants_done c cs j n (omega (arith, le)) r s))
definition_done (Variant vs x (Some t) (c ∷ cs)) (h, g, i, j) n le r s =
    named_right n vs x (m_type t (Equal ∷ m_variants (c ∷ cs) r)) g ∙ (ap (λ (b : Bool). p_right b n vs x (m_type t (Equal ∷ m_variants (c ∷ cs) r))) (type_is_type t i (Equal ∷ m_variants (c ∷ cs) r)) ∙ (ap (p_second n vs x) (type_done t i n (omega (arith, le)) (Equal ∷ m_variants (c ∷ cs) r) refl) ∙ ap (λ (z : Cons × Marks). (Variant vs x (Some t) z.0, z.1)) (variants_done c cs j n (omega (arith, le)) r s)))

abbrev pub defs_stop : Marks → Bool
defs_stop (KAnd ∷ s) = false
defs_stop s = def_stop s

defs_def : (r : Marks) → defs_stop r ≡ true → def_stop r ≡ true
defs_def [] h = refl
defs_def (KAnd ∷ s) h = refl
defs_def (k ∷ s) h = h

more_defs_stop : (m n : ℕ) (r : Marks) → defs_stop r ≡ true → p_more_definitions m n r ≡ ([], r)
more_defs_stop zero n r h = refl
more_defs_stop (suc m) n [] h = refl
more_defs_stop (suc m) n (KAnd ∷ s) h = absurd (never h)
more_defs_stop (suc m) n (k ∷ s) h = refl

defs_next : (ds : List PTDef) (r : Marks) → defs_stop r ≡ true → def_stop (m_more_definitions ds r) ≡ true
defs_next [] r h = defs_def r h
defs_next (d ∷ ds) r h = refl

abbrev more_defs : ℕ → ℕ → PTDef × Marks → List PTDef × Marks
more_defs m n d = (d.0 ∷ (p_more_definitions m n d.1).0, (p_more_definitions m n d.1).1)

more_definitions_done : (ds : List PTDef) → allowed.EachDefinition ds → (m n : ℕ) → s_defs ds ≤ m → s_defs ds ≤ n → (r : Marks) → defs_stop r ≡ true → p_more_definitions m n (m_more_definitions ds r) ≡ (ds, r)
more_definitions_done [] h m n le lf r s = more_defs_stop m n r s
more_definitions_done (d ∷ ds) h zero n le lf r s = absurd (omega (arith, le))
more_definitions_done (d ∷ ds) (h, g) (suc m) n le lf r s =
    ap (more_defs m n) (definition_done d h n (omega (arith, lf)) (m_more_definitions ds r) (defs_next ds r s)) ∙ ap (λ (z : List PTDef × Marks). (d ∷ z.0, z.1)) (more_definitions_done ds g m n (omega (arith, le)) (omega (arith, lf)) r s)

-- the definitions behind `type`
pub definitions_done : (d : PTDef) (ds : List PTDef) → allowed.EachDefinition (d ∷ ds) → (n : ℕ) → s_defs (d ∷ ds) ≤ n → (r : Marks) → defs_stop r ≡ true → p_definitions n (behind (m_definitions (d ∷ ds) r)) ≡ (d ∷ ds, r)
definitions_done d ds (h, g) n le r s =
    ap (more_defs n n) (definition_done d h n (omega (arith, le)) (m_more_definitions ds r) (defs_next ds r s)) ∙ ap (λ (z : List PTDef × Marks). (d ∷ z.0, z.1)) (more_definitions_done ds g n n (omega (arith, le)) (omega (arith, le)) r s)

-- ---- patterns

abbrev mutual
  pub s_apat : PAPat → ℕ
  s_apat Any = 3
  s_apat (PVar x) = 3
  s_apat (PConst l) = 3
  s_apat (PCon q) = 3
  s_apat PUnit = 3
  s_apat (PParen p) = s_pat p + 6
  s_apat (PTuple p ps) = s_apat p + s_apats ps + 9
  s_apat PNil = 3
  s_apat (PCell p) = s_pat p + 6

  pub s_apats : PAPats → ℕ
  s_apats NoPats = 1
  s_apats (MorePats p ps) = s_apat p + s_apats ps + 3

  pub s_pat : PPat → ℕ
  s_pat (PAt p) = s_apat p + 3
  s_pat (PBuild q p) = s_apat p + 6
  s_pat (PCons p q) = s_apat p + s_apat q + 3
  s_pat (PAs p x) = s_apat p + 3

-- what may follow a pattern
abbrev pub pat_stop : Marks → Bool
pat_stop (Dot ∷ s) = false
pat_stop (Pair ∷ s) = false
pat_stop (KAs ∷ s) = false
pat_stop (Under ∷ s) = false
pat_stop (Low x ∷ s) = false
pat_stop (Up x ∷ s) = false
pat_stop (Lt l ∷ s) = false
pat_stop (Round ∷ s) = false
pat_stop (Square ∷ s) = false
pat_stop (Curly ∷ s) = false
pat_stop s = true

pub pat_undotted : (r : Marks) → pat_stop r ≡ true → undotted r ≡ true
pat_undotted [] h = refl
pat_undotted (Dot ∷ s) h = absurd (never h)
pat_undotted (k ∷ s) h = refl

pafter_stop : (n : ℕ) (p : PAPat) (r : Marks) → pat_stop r ≡ true → p_pafter (suc n) (p, r) ≡ (PAt p, r)
pafter_stop n p [] h = refl
pafter_stop n p (Pair ∷ s) h = absurd (never h)
pafter_stop n p (KAs ∷ s) h = absurd (never h)
pafter_stop n p (Under ∷ s) h = absurd (never h)
pafter_stop n p (Low x ∷ s) h = absurd (never h)
pafter_stop n p (Up x ∷ s) h = absurd (never h)
pafter_stop n p (Lt l ∷ s) h = absurd (never h)
pafter_stop n p (Round ∷ s) h = absurd (never h)
pafter_stop n p (Square ∷ s) h = absurd (never h)
pafter_stop n p (Curly ∷ s) h = absurd (never h)
pafter_stop n p (k ∷ s) h = refl

-- what a pattern begins with
pub data StartP : Marks → Type 0 where
  SUnder : (s : Marks) → StartP (Under ∷ s)
  SLow : (x : Bytes) (s : Marks) → StartP (Low x ∷ s)
  SUp : (x : Bytes) (s : Marks) → StartP (Up x ∷ s)
  SLt : (l : OcLit) (s : Marks) → StartP (Lt l ∷ s)
  SRound : (s : Marks) → StartP (Round ∷ s)
  SSquare : (s : Marks) → StartP (Square ∷ s)
  SCurly : (s : Marks) → StartP (Curly ∷ s)

pub start_undotted : (s : Marks) → StartP s → undotted s ≡ true
start_undotted _ (SUnder s) = refl
start_undotted _ (SLow x s) = refl
start_undotted _ (SUp x s) = refl
start_undotted _ (SLt l s) = refl
start_undotted _ (SRound s) = refl
start_undotted _ (SSquare s) = refl
start_undotted _ (SCurly s) = refl

start_open : (n : ℕ) (s : Marks) → StartP s → p_pround (suc n) s ≡ p_pclose n (p_pat n s)
start_open n _ (SUnder s) = refl
start_open n _ (SLow x s) = refl
start_open n _ (SUp x s) = refl
start_open n _ (SLt l s) = refl
start_open n _ (SRound s) = refl
start_open n _ (SSquare s) = refl
start_open n _ (SCurly s) = refl

start_build : (n : ℕ) (q : Long) (s : Marks) → StartP s → p_pafter (suc n) (PCon q, s) ≡ (PBuild q (p_apat n s).0, (p_apat n s).1)
start_build n q _ (SUnder s) = refl
start_build n q _ (SLow x s) = refl
start_build n q _ (SUp x s) = refl
start_build n q _ (SLt l s) = refl
start_build n q _ (SRound s) = refl
start_build n q _ (SSquare s) = refl
start_build n q _ (SCurly s) = refl

-- the path of a constructor begins with a capital
pub first_up : (q : Long) → is_constructor q ≡ true → (n : Bytes) × (p : Long) × (q ≡ n ∷ p) × (nm n ≡ Up n)
first_up [] e = absurd cc
first_up (n ∷ []) e = (n, [], refl, go (is_cap n) refl e)
  where
    two : (b : Bool) → is_only (codes "true") (n ∷ []) ≡ b → (b || is_only (codes "false") (n ∷ [])) ≡ true → nm n ≡ Up n
    two true f g = subst (λ (z : Bytes). nm z ≡ Up z) (sym (same_is n (codes "true") f)) refl
    two false f g = subst (λ (z : Bytes). nm z ≡ Up z) (sym (same_is n (codes "false") g)) refl

    go : (b : Bool) → is_cap n ≡ b → (b || (is_only (codes "true") (n ∷ []) || is_only (codes "false") (n ∷ []))) ≡ true → nm n ≡ Up n
    go true f g = cap_mark n f
    go false f g = two (is_only (codes "true") (n ∷ [])) refl g
first_up (n ∷ m ∷ q) e = (n, m ∷ q, refl, go (is_cap n) refl e)
  where
    go : (b : Bool) → is_cap n ≡ b → ((b && ends_in is_cap (m ∷ q)) || (false || false)) ≡ true → nm n ≡ Up n
    go true f g = cap_mark n f
    go false f g = absurd cc

con_start : (q : Long) (r : Marks) → is_constructor q ≡ true → StartP (m_path q r)
con_start q r e =
    let h = first_up q e in
    subst (λ (z : Long). StartP (m_path z r)) (sym h.2) (subst (λ (k : Mark). StartP (k ∷ m_more_path h.1 r)) (sym h.3) (SUp h.0 (m_more_path h.1 r)))

con_done : (n : ℕ) (q : Long) (r : Marks) → is_constructor q ≡ true → undotted r ≡ true → p_apat (suc n) (m_path q r) ≡ (PCon q, r)
con_done n q r e u =
    let h = first_up q e in
    let a : p_apat (suc n) (m_path q r) ≡ (PCon (p_long (m_path q r)).0, (p_long (m_path q r)).1) = subst (λ (z : Long). p_apat (suc n) (m_path z r) ≡ (PCon (p_long (m_path z r)).0, (p_long (m_path z r)).1)) (sym h.2) (subst (λ (k : Mark). p_apat (suc n) (k ∷ m_more_path h.1 r) ≡ (PCon (p_long (k ∷ m_more_path h.1 r)).0, (p_long (k ∷ m_more_path h.1 r)).1)) (sym h.3) refl) in
    a ∙ ap (λ (z : Long × Marks). (PCon z.0, z.1)) (path_done q r (constructor_path q e) u)

pub start_apat : (p : PAPat) → allowed.APat p → (r : Marks) → StartP (m_apat p r)
start_apat Any h r = SUnder r
start_apat (PVar x) h r = subst (λ (k : Mark). StartP (k ∷ r)) (sym (low_mark x h)) (SLow x r)
start_apat (PConst l) h r = SLt l r
start_apat (PCon q) h r = con_start q r h
start_apat PUnit h r = SRound (Closed ∷ r)
start_apat (PParen p) h r = SRound (m_pat p (Closed ∷ r))
start_apat (PTuple p ps) h r = SRound (m_apat p (m_more_apats ps (Closed ∷ r)))
start_apat PNil h r = SSquare (Unsquare ∷ r)
start_apat (PCell p) h r = SCurly (Low (codes "contents") ∷ Equal ∷ m_pat p (Uncurly ∷ r))

pub start_pat : (p : PPat) → allowed.Pat p → (r : Marks) → StartP (m_pat p r)
start_pat (PAt p) h r = start_apat p h r
start_pat (PBuild q p) h r = con_start q (m_apat p r) h.0
start_pat (PCons p q) h r = start_apat p h.0 (Pair ∷ m_apat q r)
start_pat (PAs p x) h r = start_apat p h.0 (KAs ∷ nm x ∷ r)

commas : (ps : PAPats) (r : Marks) → undotted (m_more_apats ps (Closed ∷ r)) ≡ true
commas NoPats r = refl
commas (MorePats p ps) r = refl

mutual
  pub apat_done : (p : PAPat) → allowed.APat p → (n : ℕ) → s_apat p ≤ n → (r : Marks) → undotted r ≡ true → p_apat n (m_apat p r) ≡ (p, r)
  apat_done Any h zero le r u = absurd (omega (arith, le))
  apat_done Any h (suc n) le r u = refl
  apat_done (PVar x) h zero le r u = absurd (omega (arith, le))
  apat_done (PVar x) h (suc n) le r u = ap (λ (k : Mark). p_apat (suc n) (k ∷ r)) (low_mark x h)
  apat_done (PConst l) h zero le r u = absurd (omega (arith, le))
  apat_done (PConst l) h (suc n) le r u = refl
  apat_done (PCon q) h zero le r u = absurd (omega (arith, le))
  apat_done (PCon q) h (suc n) le r u = con_done n q r h u
  apat_done PUnit h zero le r u = absurd (omega (arith, le))
  apat_done PUnit h (suc zero) le r u = absurd (omega (arith, le))
  apat_done PUnit h (suc (suc n)) le r u = refl
  apat_done (PParen p) h zero le r u = absurd (omega (arith, le))
  apat_done (PParen p) h (suc zero) le r u = absurd (omega (arith, le))
  apat_done (PParen p) h (suc (suc zero)) le r u = absurd (omega (arith, le))
  apat_done (PParen p) h (suc (suc (suc n))) le r u =
      start_open (suc n) (m_pat p (Closed ∷ r)) (start_pat p h (Closed ∷ r)) ∙ ap (p_pclose (suc n)) (pat_done p h (suc n) (omega (arith, le)) (Closed ∷ r) refl)
  apat_done (PTuple p NoPats) h n le r u = absurd h
  apat_done (PTuple p (MorePats q qs)) h zero le r u = absurd (omega (arith, le))
  apat_done (PTuple p (MorePats q qs)) h (suc zero) le r u = absurd (omega (arith, le))
  apat_done (PTuple p (MorePats q qs)) h (suc (suc zero)) le r u = absurd (omega (arith, le))
  apat_done (PTuple p (MorePats q qs)) h (suc (suc (suc zero))) le r u = absurd (omega (arith, le))
  apat_done (PTuple p (MorePats q qs)) h (suc (suc (suc (suc zero)))) le r u = absurd (omega (arith, le))
  apat_done (PTuple p (MorePats q qs)) (h, g) (suc (suc (suc (suc (suc n))))) le r u =
      let s = m_more_apats (MorePats q qs) (Closed ∷ r) in
      let a = apat_done p h (suc (suc n)) (omega (arith, le)) s refl in
      let b = apats_done (MorePats q qs) g (suc (suc n)) (omega (arith, le)) r in
      start_open (suc (suc (suc n))) (m_apat p s) (start_apat p h s) ∙ (ap (λ (z : PAPat × Marks). p_pclose (suc (suc (suc n))) (p_pafter (suc (suc n)) z)) a ∙ ap (λ (z : PAPats × Marks). (PTuple p z.0, behind z.1)) b)
  apat_done PNil h zero le r u = absurd (omega (arith, le))
  apat_done PNil h (suc n) le r u = refl
  apat_done (PCell p) h zero le r u = absurd (omega (arith, le))
  apat_done (PCell p) h (suc n) le r u = ap (λ (z : PPat × Marks). (PCell z.0, behind z.1)) (pat_done p h n (omega (arith, le)) (Uncurly ∷ r) refl)

  apats_done : (ps : PAPats) → allowed.EachAPat ps → (n : ℕ) → s_apats ps ≤ n → (r : Marks) → p_more_apats n (m_more_apats ps (Closed ∷ r)) ≡ (ps, Closed ∷ r)
  apats_done NoPats h zero le r = absurd (omega (arith, le))
  apats_done NoPats h (suc n) le r = refl
  apats_done (MorePats p ps) h zero le r = absurd (omega (arith, le))
  apats_done (MorePats p ps) (h, g) (suc n) le r =
      ap (λ (z : PAPat × Marks). (MorePats z.0 (p_more_apats n z.1).0, (p_more_apats n z.1).1)) (apat_done p h n (omega (arith, le)) (m_more_apats ps (Closed ∷ r)) (commas ps r)) ∙ ap (λ (z : PAPats × Marks). (MorePats p z.0, z.1)) (apats_done ps g n (omega (arith, le)) r)

  pub pat_done : (p : PPat) → allowed.Pat p → (n : ℕ) → s_pat p ≤ n → (r : Marks) → pat_stop r ≡ true → p_pat n (m_pat p r) ≡ (p, r)
  pat_done (PAt p) h zero le r s = absurd (omega (arith, le))
  pat_done (PAt p) h (suc zero) le r s = absurd (omega (arith, le))
  pat_done (PAt p) h (suc (suc n)) le r s = ap (p_pafter (suc n)) (apat_done p h (suc n) (omega (arith, le)) r (pat_undotted r s)) ∙ pafter_stop n p r s
  pat_done (PBuild q p) h zero le r s = absurd (omega (arith, le))
  pat_done (PBuild q p) h (suc zero) le r s = absurd (omega (arith, le))
  pat_done (PBuild q p) (h, g) (suc (suc n)) le r s =
      let t = start_apat p g r in
      ap (p_pafter (suc n)) (con_done n q (m_apat p r) h (start_undotted (m_apat p r) t)) ∙ (start_build n q (m_apat p r) t ∙ ap (λ (z : PAPat × Marks). (PBuild q z.0, z.1)) (apat_done p g n (omega (arith, le)) r (pat_undotted r s)))
  pat_done (PCons p q) h zero le r s = absurd (omega (arith, le))
  pat_done (PCons p q) h (suc zero) le r s = absurd (omega (arith, le))
  pat_done (PCons p q) (h, g) (suc (suc n)) le r s =
      ap (p_pafter (suc n)) (apat_done p h (suc n) (omega (arith, le)) (Pair ∷ m_apat q r) refl) ∙ ap (λ (z : PAPat × Marks). (PCons p z.0, z.1)) (apat_done q g n (omega (arith, le)) r (pat_undotted r s))
  pat_done (PAs p x) h zero le r s = absurd (omega (arith, le))
  pat_done (PAs p x) h (suc zero) le r s = absurd (omega (arith, le))
  pat_done (PAs p x) (h, g) (suc (suc n)) le r s =
      ap (p_pafter (suc n)) (apat_done p h (suc n) (omega (arith, le)) (KAs ∷ nm x ∷ r) refl) ∙ ap (λ (k : Mark). (PAs p (name_of k), r)) (low_mark x g)
