-- What may follow items and bindings, and the forms that are told by their first marks.
use Rattle.std.proofs.Common.{◌≡◌, ℕ, zero, suc, ◌+◌, ◌≤◌, Bool, true, false, [], ◌∷◌, Option, Some, None, refl, sym, ap, subst, ◌∙◌, arith}
use Rattle.oc_ast.specs.Plain.{Bytes, Long, PATy, PPat, PAtom, Const, Val, Con, Nothing, Paren, Tuple, Items, PAtoms, NoAtoms, MoreAtoms, PArms, NoArms, MoreArms, PFull, Is, LetIn, PItem, Let, LetRec, Types, Exn, ExnAs, Module, Sealed, Functor, PItems, NoItems, MoreItems, MAt, PRBinds, NoBinds, MoreBinds, PSimple, Call}
use Rattle.oc_mirror.proofs.Marks.{Mark, Marks, KAnd, KEnd, KException, KLet, KModule, KType, KVal, Round, Dot}
use Rattle.oc_rules.specs.Allowed as allowed
use Rattle.oc_rules.specs.Allowed.{is_low, is_cap, ends_in, is_module, is_value, is_constructor, operators, all_tyvars, IsBare, IsFun}
use Rattle.oc_rules.proofs.Tests.{never, and_true}
use Rattle.oc_mirror.proofs.Marks.{m_more_path, m_path, m_cons, m_atom, m_more_atoms, m_arms, m_item, m_items, m_more_rbinds, m_simple}
use Rattle.oc_mirror.proofs.Decode.{p_long, p_cons_of, p_pat, call, p_apply, p_atom, p_more_atoms, p_arms, p_full, p_let, p_after, p_simple, p_rest, p_more_binds, p_item, p_items, p_mexp, behind}
use Rattle.oc_mirror.proofs.Names.{cap_mark, undotted}
use Rattle.oc_mirror.proofs.ReadsPatterns.{StartP, SUnder, SLow, SUp, SLt, SRound, SSquare, SCurly}
use Rattle.oc_mirror.proofs.ReadsSignatures.{item_stop}
use Rattle.oc_mirror.proofs.StartsExpressions.{full_stop, full_undotted, Goes, StartE, e_full, e_simple}

-- ---- forms that begin with a pattern or a binding

abbrev pub let_in : ℕ → PPat × Marks → PFull × Marks
let_in n p = (LetIn p.0 (p_simple n (behind p.1)).0 (p_full n (behind (p_simple n (behind p.1)).1)).0, (p_full n (behind (p_simple n (behind p.1)).1)).1)

pub start_let : (n : ℕ) (s : Marks) → StartP s → p_let (suc n) s ≡ let_in n (p_pat n s)
start_let n _ (SUnder s) = refl
start_let n _ (SLow x s) = refl
start_let n _ (SUp x s) = refl
start_let n _ (SLt l s) = refl
start_let n _ (SRound s) = refl
start_let n _ (SSquare s) = refl
start_let n _ (SCurly s) = refl

abbrev pub item_let : ℕ → PPat × Marks → PItem × Marks
item_let n p = (Let p.0 (p_simple n (behind p.1)).0, (p_simple n (behind p.1)).1)

pub start_item : (n : ℕ) (s : Marks) → StartP s → p_item (suc n) (KLet ∷ s) ≡ item_let n (p_pat n s)
start_item n _ (SUnder s) = refl
start_item n _ (SLow x s) = refl
start_item n _ (SUp x s) = refl
start_item n _ (SLt l s) = refl
start_item n _ (SRound s) = refl
start_item n _ (SSquare s) = refl
start_item n _ (SCurly s) = refl

-- what may follow bindings
abbrev pub binds_stop : Marks → Bool
binds_stop (KAnd ∷ s) = false
binds_stop s = full_stop s

pub binds_full : (r : Marks) → binds_stop r ≡ true → full_stop r ≡ true
binds_full [] h = refl
binds_full (KAnd ∷ s) h = refl
binds_full (k ∷ s) h = h

pub more_binds_stop : (n : ℕ) (r : Marks) → binds_stop r ≡ true → p_more_binds (suc n) r ≡ (NoBinds, r)
more_binds_stop n [] h = refl
more_binds_stop n (KAnd ∷ s) h = absurd (never h)
more_binds_stop n (k ∷ s) h = refl

pub item_binds : (r : Marks) → item_stop r ≡ true → binds_stop r ≡ true
item_binds [] h = refl
item_binds (KEnd ∷ s) h = refl
item_binds (KLet ∷ s) h = refl
item_binds (KType ∷ s) h = refl
item_binds (KException ∷ s) h = refl
item_binds (KModule ∷ s) h = refl
item_binds (KVal ∷ s) h = refl
item_binds (k ∷ s) h = absurd (never h)

pub binds_next : (bs : PRBinds) (r : Marks) → binds_stop r ≡ true → full_stop (m_more_rbinds bs r) ≡ true
binds_next NoBinds r h = binds_full r h
binds_next (MoreBinds b bs) r h = refl

-- ---- exceptions, modules, items

abbrev pub item_exn : (Bytes × Option PATy) × Marks → PItem × Marks
item_exn c = (Exn c.0.0 c.0.1, c.1)

pub exn_by : (n : ℕ) (x : Bytes) (t : Option PATy) (r : Marks) → item_stop r ≡ true → p_item (suc n) (KException ∷ m_cons x t r) ≡ item_exn (p_cons_of n (m_cons x t r))
exn_by n x None [] h = refl
exn_by n x None (KEnd ∷ r) h = refl
exn_by n x None (KLet ∷ r) h = refl
exn_by n x None (KType ∷ r) h = refl
exn_by n x None (KException ∷ r) h = refl
exn_by n x None (KModule ∷ r) h = refl
exn_by n x None (KVal ∷ r) h = refl
exn_by n x None (k ∷ r) h = absurd (never h)
exn_by n x (Some t) r h = refl

abbrev pub mexp_stop : Marks → Bool
mexp_stop (Dot ∷ s) = false
mexp_stop (Round ∷ s) = false
mexp_stop s = true

pub item_mexp : (r : Marks) → item_stop r ≡ true → mexp_stop r ≡ true
item_mexp [] h = refl
item_mexp (Dot ∷ s) h = absurd (never h)
item_mexp (Round ∷ s) h = absurd (never h)
item_mexp (k ∷ s) h = refl

pub mexp_undotted : (r : Marks) → mexp_stop r ≡ true → undotted r ≡ true
mexp_undotted [] h = refl
mexp_undotted (Dot ∷ s) h = absurd (never h)
mexp_undotted (k ∷ s) h = refl

pub apply_stop : (q : Long) (r : Marks) → mexp_stop r ≡ true → p_apply (q, r) ≡ (MAt q, r)
apply_stop q [] h = refl
apply_stop q (Round ∷ s) h = absurd (never h)
apply_stop q (k ∷ s) h = refl

pub module_by : (n : ℕ) (q : Long) (r : Marks) → is_module q ≡ true → p_mexp (suc n) (m_path q r) ≡ p_apply (p_long (m_path q r))
module_by n [] r h = absurd cc
module_by n (x ∷ []) r h = subst (λ (k : Mark). p_mexp (suc n) (k ∷ r) ≡ p_apply (p_long (k ∷ r))) (sym (cap_mark x h)) refl
module_by n (x ∷ m ∷ q) r h = subst (λ (k : Mark). p_mexp (suc n) (k ∷ m_more_path (m ∷ q) r) ≡ p_apply (p_long (k ∷ m_more_path (m ∷ q) r))) (sym (cap_mark x (and_true (is_cap x) (ends_in is_cap (m ∷ q)) h).0)) refl

-- items end a text or stand before `end`
abbrev pub items_stop : Marks → Bool
items_stop [] = true
items_stop (KEnd ∷ s) = true
items_stop (k ∷ s) = false

pub items_end : (n : ℕ) (r : Marks) → items_stop r ≡ true → p_items (suc n) r ≡ (NoItems, r)
items_end n [] h = refl
items_end n (KEnd ∷ s) h = refl
items_end n (k ∷ s) h = absurd (never h)

pub items_item : (r : Marks) → items_stop r ≡ true → item_stop r ≡ true
items_item [] h = refl
items_item (KEnd ∷ s) h = refl
items_item (k ∷ s) h = absurd (never h)

pub item_next : (is : PItems) (r : Marks) → items_stop r ≡ true → item_stop (m_items is r) ≡ true
item_next NoItems r h = items_item r h
item_next (MoreItems (Let p e) is) r h = refl
item_next (MoreItems (LetRec NoBinds) is) r h = refl
item_next (MoreItems (LetRec (MoreBinds b bs)) is) r h = refl
item_next (MoreItems (Types []) is) r h = refl
item_next (MoreItems (Types (d ∷ ds)) is) r h = refl
item_next (MoreItems (Exn n t) is) r h = refl
item_next (MoreItems (ExnAs n q) is) r h = refl
item_next (MoreItems (Module n m) is) r h = refl
item_next (MoreItems (Sealed n s m) is) r h = refl
item_next (MoreItems (Functor n x s m) is) r h = refl

abbrev pub with_items : ℕ → PItem × Marks → PItems × Marks
with_items n i = (MoreItems i.0 (p_items n i.1).0, (p_items n i.1).1)

pub items_more : (n : ℕ) (i : PItem) (s : Marks) → p_items (suc n) (m_item i s) ≡ with_items n (p_item n (m_item i s))
items_more n (Let p e) s = refl
items_more n (LetRec NoBinds) s = refl
items_more n (LetRec (MoreBinds b bs)) s = refl
items_more n (Types []) s = refl
items_more n (Types (d ∷ ds)) s = refl
items_more n (Exn x t) s = refl
items_more n (ExnAs x q) s = refl
items_more n (Module x m) s = refl
items_more n (Sealed x g m) s = refl
items_more n (Functor x y g m) s = refl

-- ---- a simple expression that is no function: its first part, and what is made of it

pub record Split (e : PSimple) (r : Marks) (f : ℕ) : Type 0 where
  pub part : PAtom
  pub behind_it : Marks
  pub starts : StartE (m_simple e r)
  pub first : (n : ℕ) → f ≤ n → p_atom n (m_simple e r) ≡ (part, behind_it)
  pub second : (n : ℕ) → f ≤ n → p_rest n (part, behind_it) ≡ (e, r)
  pub goes : (n : ℕ) → Goes n part behind_it

pub simple_by : (e : PSimple) (r : Marks) (f : ℕ) → Split e r f → (n : ℕ) → f + 3 ≤ n → p_simple n (m_simple e r) ≡ (e, r)
simple_by e r f t zero le = absurd (omega (arith, le))
simple_by e r f t (suc n) le = e_simple n (m_simple e r) t.starts ∙ (ap (p_rest n) (t.first n (omega (arith, le))) ∙ t.second n (omega (arith, le)))

pub full_by : (e : PSimple) (r : Marks) (f : ℕ) → Split e r f → (n : ℕ) → f + 3 ≤ n → p_full n (m_simple e r) ≡ (Is e, r)
full_by e r f t zero le = absurd (omega (arith, le))
full_by e r f t (suc zero) le = absurd (omega (arith, le))
full_by e r f t (suc (suc n)) le =
    e_full (suc n) (m_simple e r) t.starts ∙ (ap (p_after (suc n)) (t.first (suc n) (omega (arith, le))) ∙ (t.goes n ∙ ap (λ (z : PSimple × Marks). (Is z.0, z.1)) (t.second n (omega (arith, le)))))

pub call_head : (a b : PAtom) → allowed.Head a → call a b ≡ Call a b
call_head (Const l) b h = refl
call_head (Val q) b h = refl
call_head (Con q) b h = absurd h
call_head Nothing b h = refl
call_head (Paren e) b h = refl
call_head (Tuple a xs) b h = refl
call_head (Items xs) b h = refl

pub arms_next : (xs : PArms) (r : Marks) → full_stop r ≡ true → undotted (m_arms xs r) ≡ true
arms_next NoArms r h = full_undotted r h
arms_next (MoreArms p a xs) r h = refl

pub atoms_next : (m c : Mark) (xs : PAtoms) (r : Marks) → undotted (m ∷ []) ≡ true → undotted (c ∷ []) ≡ true → undotted (m_more_atoms m xs (c ∷ r)) ≡ true
atoms_next m c NoAtoms r h k = up c r k
  where
    up : (c : Mark) (r : Marks) → undotted (c ∷ []) ≡ true → undotted (c ∷ r) ≡ true
    up Dot r k = k
    up c r k = refl
atoms_next m c (MoreAtoms a xs) r h k = up m (m_atom a (m_more_atoms m xs (c ∷ r))) h
  where
    up : (c : Mark) (r : Marks) → undotted (c ∷ []) ≡ true → undotted (c ∷ r) ≡ true
    up Dot r k = k
    up c r k = refl

abbrev pub with_atoms : ℕ → PAtom × Marks → PAtoms × Marks
with_atoms n a = (MoreAtoms a.0 (p_more_atoms n a.1).0, (p_more_atoms n a.1).1)

abbrev pub with_arms : ℕ → PPat → PAtom × Marks → PArms × Marks
with_arms n p a = (MoreArms p a.0 (p_arms n a.1).0, (p_arms n a.1).1)
