-- The marks of signatures are decoded to them.
use Rattle.std.proofs.Common.{◌≡◌, ℕ, zero, suc, ◌+◌, ◌≤◌, Bool, true, false, List, [], ◌∷◌, Option, Some, None, refl, ap, ◌∙◌, arith}
use Rattle.oc_ast.specs.Plain.{Bytes, PATy, POTy, PTDef, Alias, Variant, PMSig, Sig, PSItem, SVal, STypes, SAbs, SExn, SModule, PSItems, NoSItems, MoreSItems}
use Rattle.oc_mirror.proofs.Marks.{Mark, Marks, KEnd, KException, KLet, KModule, KType, KVal, Equal}
use Rattle.oc_rules.specs.Allowed as allowed
use Rattle.oc_rules.specs.Allowed.{is_low, is_cap, all_tyvars}
use Rattle.oc_rules.proofs.Tests.{never}
use Rattle.oc_mirror.proofs.Marks.{nm, m_params, m_type, m_variants, m_definition, m_more_definitions, m_msig, m_sitem, m_sitems}
use Rattle.oc_mirror.proofs.Decode.{p_params, p_definitions, p_types_by, p_msig, p_sitem, p_sitems, behind, name_of}
use Rattle.oc_mirror.proofs.Names.{low_mark, cap_mark, params_done}
use Rattle.oc_mirror.proofs.ReadsTypes.{s_type, type_stop, type_done}
use Rattle.oc_mirror.proofs.ReadsPatterns.{s_arg, s_defs, cons_stop, defs_stop, cons_done, definitions_done}

-- what may follow an item
abbrev pub item_stop : Marks → Bool
item_stop [] = true
item_stop (KEnd ∷ s) = true
item_stop (KLet ∷ s) = true
item_stop (KType ∷ s) = true
item_stop (KException ∷ s) = true
item_stop (KModule ∷ s) = true
item_stop (KVal ∷ s) = true
item_stop (k ∷ s) = false

pub item_type : (r : Marks) → item_stop r ≡ true → type_stop r ≡ true
item_type [] h = refl
item_type (KEnd ∷ s) h = refl
item_type (KLet ∷ s) h = refl
item_type (KType ∷ s) h = refl
item_type (KException ∷ s) h = refl
item_type (KModule ∷ s) h = refl
item_type (KVal ∷ s) h = refl
item_type (k ∷ s) h = absurd (never h)

pub item_defs : (r : Marks) → item_stop r ≡ true → defs_stop r ≡ true
item_defs [] h = refl
item_defs (KEnd ∷ s) h = refl
item_defs (KLet ∷ s) h = refl
item_defs (KType ∷ s) h = refl
item_defs (KException ∷ s) h = refl
item_defs (KModule ∷ s) h = refl
item_defs (KVal ∷ s) h = refl
item_defs (k ∷ s) h = absurd (never h)

pub item_cons : (r : Marks) → item_stop r ≡ true → cons_stop r ≡ true
item_cons [] h = refl
item_cons (KEnd ∷ s) h = refl
item_cons (KLet ∷ s) h = refl
item_cons (KType ∷ s) h = refl
item_cons (KException ∷ s) h = refl
item_cons (KModule ∷ s) h = refl
item_cons (KVal ∷ s) h = refl
item_cons (k ∷ s) h = absurd (never h)

types_abs : (n : ℕ) (s : Marks) (vs : List Bytes) (k : Mark) (r : Marks) → item_stop r ≡ true → p_types_by n s (vs, k ∷ r) ≡ (SAbs vs (name_of k), r)
types_abs n s vs k [] h = refl
types_abs n s vs k (KEnd ∷ r) h = refl
types_abs n s vs k (KLet ∷ r) h = refl
types_abs n s vs k (KType ∷ r) h = refl
types_abs n s vs k (KException ∷ r) h = refl
types_abs n s vs k (KModule ∷ r) h = refl
types_abs n s vs k (KVal ∷ r) h = refl
types_abs n s vs k (j ∷ r) h = absurd (never h)

-- the word `type` is followed by definitions
types_defs : (n : ℕ) (d : PTDef) → allowed.Definition d → (r : Marks) → p_types_by n (m_definition d r) (p_params (m_definition d r)) ≡ (STypes (p_definitions n (m_definition d r)).0, (p_definitions n (m_definition d r)).1)
types_defs n (Alias vs x t) (h, g, i) r = ap (p_types_by n (m_definition (Alias vs x t) r)) (params_done vs x (Equal ∷ m_type t r) (low_mark x g))
types_defs n (Variant vs x t []) h r = absurd h
types_defs n (Variant vs x None (c ∷ cs)) (h, g, i, j) r = ap (p_types_by n (m_definition (Variant vs x None (c ∷ cs)) r)) (params_done vs x (Equal ∷ m_variants (c ∷ cs) r) (low_mark x g))
types_defs n (Variant vs x (Some t) (c ∷ cs)) (h, g, i, j) r = ap (p_types_by n (m_definition (Variant vs x (Some t) (c ∷ cs)) r)) (params_done vs x (Equal ∷ m_type t (Equal ∷ m_variants (c ∷ cs) r)) (low_mark x g))

abbrev mutual
  pub s_msig : PMSig → ℕ
  s_msig (Sig is) = s_sitems is + 3

  pub s_sitem : PSItem → ℕ
  s_sitem (SVal x t) = s_type t + 3
  s_sitem (STypes ds) = s_defs ds + 3
  s_sitem (SAbs vs n) = 3
  s_sitem (SExn n t) = s_arg t + 3
  s_sitem (SModule n s) = s_msig s + 3

  pub s_sitems : PSItems → ℕ
  s_sitems NoSItems = 1
  s_sitems (MoreSItems i is) = s_sitem i + s_sitems is + 3

sitem_next : (is : PSItems) (r : Marks) → item_stop (m_sitems is (KEnd ∷ r)) ≡ true
sitem_next NoSItems r = refl
sitem_next (MoreSItems (SVal x t) is) r = refl
sitem_next (MoreSItems (STypes []) is) r = refl
sitem_next (MoreSItems (STypes (d ∷ ds)) is) r = refl
sitem_next (MoreSItems (SAbs vs n) is) r = refl
sitem_next (MoreSItems (SExn n t) is) r = refl
sitem_next (MoreSItems (SModule n s) is) r = refl

abbrev with_items : ℕ → PSItem × Marks → PSItems × Marks
with_items n i = (MoreSItems i.0 (p_sitems n i.1).0, (p_sitems n i.1).1)

sitems_more : (n : ℕ) (i : PSItem) (s : Marks) → p_sitems (suc n) (m_sitem i s) ≡ with_items n (p_sitem n (m_sitem i s))
sitems_more n (SVal x t) s = refl
sitems_more n (STypes []) s = refl
sitems_more n (STypes (d ∷ ds)) s = refl
sitems_more n (SAbs vs x) s = refl
sitems_more n (SExn x t) s = refl
sitems_more n (SModule x m) s = refl

mutual
  pub msig_done : (s : PMSig) → allowed.MSig s → (n : ℕ) → s_msig s ≤ n → (r : Marks) → p_msig n (m_msig s r) ≡ (s, r)
  msig_done (Sig is) h zero le r = absurd (omega (arith, le))
  msig_done (Sig is) h (suc n) le r = ap (λ (z : PSItems × Marks). (Sig z.0, behind z.1)) (sitems_done is h n (omega (arith, le)) r)

  sitem_done : (i : PSItem) → allowed.SItem i → (n : ℕ) → s_sitem i ≤ n → (r : Marks) → item_stop r ≡ true → p_sitem n (m_sitem i r) ≡ (i, r)
  sitem_done (SVal x t) h zero le r s = absurd (omega (arith, le))
  sitem_done (SVal x t) (h, g) (suc n) le r s =
      ap (λ (z : POTy × Marks). (SVal (name_of (nm x)) z.0, z.1)) (type_done t g n (omega (arith, le)) r (item_type r s)) ∙ ap (λ (k : Mark). (SVal (name_of k) t, r)) (low_mark x h)
  sitem_done (STypes []) h n le r s = absurd h
  sitem_done (STypes (d ∷ ds)) h zero le r s = absurd (omega (arith, le))
  sitem_done (STypes (d ∷ ds)) h (suc n) le r s =
      types_defs n d h.0 (m_more_definitions ds r) ∙ ap (λ (z : List PTDef × Marks). (STypes z.0, z.1)) (definitions_done d ds h n (omega (arith, le)) r (item_defs r s))
  sitem_done (SAbs vs x) h zero le r s = absurd (omega (arith, le))
  sitem_done (SAbs vs x) (h, g) (suc n) le r s =
      ap (p_types_by n (m_params vs (nm x ∷ r))) (params_done vs x r (low_mark x g)) ∙ (types_abs n (m_params vs (nm x ∷ r)) vs (nm x) r s ∙ ap (λ (k : Mark). (SAbs vs (name_of k), r)) (low_mark x g))
  sitem_done (SExn x t) h zero le r s = absurd (omega (arith, le))
  sitem_done (SExn x t) h (suc n) le r s = ap (λ (c : (Bytes × Option PATy) × Marks). (SExn c.0.0 c.0.1, c.1)) (cons_done x t h n (omega (arith, le)) r (item_cons r s))
  sitem_done (SModule x m) h zero le r s = absurd (omega (arith, le))
  sitem_done (SModule x m) (h, g) (suc n) le r s =
      ap (λ (z : PMSig × Marks). (SModule (name_of (nm x)) z.0, z.1)) (msig_done m g n (omega (arith, le)) r) ∙ ap (λ (k : Mark). (SModule (name_of k) m, r)) (cap_mark x h)

  sitems_done : (is : PSItems) → allowed.EachSItem is → (n : ℕ) → s_sitems is ≤ n → (r : Marks) → p_sitems n (m_sitems is (KEnd ∷ r)) ≡ (is, KEnd ∷ r)
  sitems_done NoSItems h zero le r = absurd (omega (arith, le))
  sitems_done NoSItems h (suc n) le r = refl
  sitems_done (MoreSItems i is) h zero le r = absurd (omega (arith, le))
  sitems_done (MoreSItems i is) (h, g) (suc n) le r =
      sitems_more n i (m_sitems is (KEnd ∷ r)) ∙ (ap (with_items n) (sitem_done i h n (omega (arith, le)) (m_sitems is (KEnd ∷ r)) (sitem_next is r)) ∙ ap (λ (z : PSItems × Marks). (MoreSItems i z.0, z.1)) (sitems_done is g n (omega (arith, le)) r))
