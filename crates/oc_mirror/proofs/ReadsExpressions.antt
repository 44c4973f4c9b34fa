-- The marks of expressions, modules and items are decoded to them.
use Rattle.std.proofs.Common.{◌≡◌, ℕ, zero, suc, ◌+◌, ◌≤◌, true, List, [], ◌∷◌, Option, refl, ap, ◌∙◌, arith}
use Rattle.oc_ast.specs.Plain.{Bytes, Long, PATy, POTy, PTDef, PAPat, PPat, PMSig, PAtom, Const, Val, Con, Nothing, Paren, Tuple, Items, PAtoms, NoAtoms, MoreAtoms, PArms, NoArms, MoreArms, PFull, Is, LetIn, LetRecIn, LetMod, LetExn, If, Match, Try, While, Then, PItem, Let, LetRec, Types, Exn, ExnAs, Module, Sealed, Functor, PItems, NoItems, MoreItems, PMExp, MAt, Struct, Apply, MSeal, PRBind, Plain, Poly, PRBinds, NoBinds, MoreBinds, PSimple, One, Call, Build, Oper, Fun}
use Rattle.oc_mirror.proofs.Marks.{Mark, Marks, KDo, KDone, KElse, KEnd, KIn, KThen, KWith, Round, Closed, Unsquare, Comma, Semi, Dot, Colon, Equal, Arrow}
use Rattle.oc_rules.specs.Bytes.{is_any, is_bang}
use Rattle.oc_rules.specs.Allowed as allowed
use Rattle.oc_rules.specs.Allowed.{is_low, is_cap, ends_in, is_module, is_value, is_constructor, operators, all_tyvars, IsBare, IsFun}
use Rattle.oc_mirror.proofs.Marks.{nm, oper, m_path, m_type, m_apat, m_pat, m_msig, m_atom, m_more_atoms, m_arms, m_full, m_item, m_items, m_mexp, m_more_rbinds, m_rbind, m_simple}
use Rattle.oc_mirror.proofs.Decode.{p_type, p_msig, call, p_apply, p_atom, p_close, p_more_atoms, p_arms, p_full, p_after, p_simple, p_fun, p_rest, p_more_binds, p_bind, p_item, p_items, p_mexp, behind, name_of}
use Rattle.oc_mirror.proofs.Names.{low_mark, cap_mark, undotted, path_done, module_path, constructor_path, tyvars_done}
use Rattle.oc_mirror.proofs.ReadsTypes.{type_done}
use Rattle.oc_mirror.proofs.ReadsPatterns.{cons_done, definitions_done, s_apat, s_pat, apat_done, pat_done, start_pat}
use Rattle.oc_mirror.proofs.ReadsSignatures.{item_stop, item_defs, item_cons, msig_done}
use Rattle.oc_mirror.proofs.StartsExpressions.{s_atom, s_atoms, s_arms, s_full, s_item, s_items, s_mexp, s_bind, s_binds, s_simple, full_stop, full_undotted, rest_stop, after_stop, arms_stop, item_full, StartE, e_undotted, e_full, e_round, listed, e_square, e_call, e_goes, path_start, start_atom, open_full, val_by, con_done, IsOperator, one_of, each_operator}
use Rattle.oc_mirror.proofs.FormsExpressions.{let_in, start_let, item_let, start_item, binds_stop, more_binds_stop, item_binds, binds_next, item_exn, exn_by, mexp_stop, item_mexp, mexp_undotted, apply_stop, module_by, items_stop, items_end, item_next, with_items, items_more, simple_by, full_by, call_head, arms_next, atoms_next, with_atoms, with_arms, Split}

-- ---- the forms of a simple expression, from what is known of their parts

abbrev Done : PAtom → Type 0
Done a = (n : ℕ) → s_atom a ≤ n → (r : Marks) → undotted r ≡ true → p_atom n (m_atom a r) ≡ (a, r)

rest_one : (n : ℕ) (a : PAtom) (r : Marks) → 1 ≤ n → full_stop r ≡ true → p_rest n (a, r) ≡ (One a, r)
rest_one zero a r le s = absurd (omega (arith, le))
rest_one (suc n) a r le s = rest_stop n a r s

rest_call : (n : ℕ) (a b : PAtom) (r : Marks) → s_atom b + 1 ≤ n → StartE (m_atom b r) → Done b → undotted r ≡ true → p_rest n (a, m_atom b r) ≡ (call a b, r)
rest_call zero a b r le t d u = absurd (omega (arith, le))
rest_call (suc n) a b r le t d u = e_call n a (m_atom b r) t ∙ ap (λ (z : PAtom × Marks). (call a z.0, z.1)) (d n (omega (arith, le)) r u)

rest_oper : (n : ℕ) (a : PAtom) (o : Bytes) (b : PAtom) (r : Marks) → s_atom b + 1 ≤ n → IsOperator o → Done b → undotted r ≡ true → p_rest n (a, oper o ∷ m_atom b r) ≡ (Oper a o b, r)
rest_oper zero a o b r le t d u = absurd (omega (arith, le))
rest_oper (suc n) a o b r le t d u = t.0 n a (m_atom b r) ∙ ap (λ (z : PAtom × Marks). (Oper a o z.0, z.1)) (d n (omega (arith, le)) r u)

split_one : (a : PAtom) → allowed.Atom a → Done a → (r : Marks) → full_stop r ≡ true → Split (One a) r (s_simple (One a))
split_one a h d r s = record {
  part = a;
  behind_it = r;
  starts = start_atom a h r;
  first = λ n le. d n (omega (arith, le)) r (full_undotted r s);
  second = λ n le. rest_one n a r (omega (arith, le)) s;
  goes = λ n. after_stop n a r s;
}

split_call : (a b : PAtom) → allowed.Atom a → allowed.Head a → allowed.Atom b → Done a → Done b → (r : Marks) → full_stop r ≡ true → Split (Call a b) r (s_simple (Call a b))
split_call a b h k m d c r s =
    let t : StartE (m_atom b r) = start_atom b m r in
    record {
      part = a;
      behind_it = m_atom b r;
      starts = start_atom a h (m_atom b r);
      first = λ n le. d n (omega (arith, le)) (m_atom b r) (e_undotted (m_atom b r) t);
      second = λ n le. rest_call n a b r (omega (arith, le)) t c (full_undotted r s) ∙ ap (λ (z : PSimple). (z, r)) (call_head a b k);
      goes = λ n. e_goes n a (m_atom b r) t;
    }

split_build : (q : Long) (b : PAtom) → is_constructor q ≡ true → allowed.Atom b → Done b → (r : Marks) → full_stop r ≡ true → Split (Build q b) r (s_simple (Build q b))
split_build q b h m c r s =
    let t : StartE (m_atom b r) = start_atom b m r in
    record {
      part = Con q;
      behind_it = m_atom b r;
      starts = path_start q (m_atom b r) (constructor_path q h);
      first = λ n le. built n (omega (arith, le)) (e_undotted (m_atom b r) t);
      second = λ n le. rest_call n (Con q) b r (omega (arith, le)) t c (full_undotted r s);
      goes = λ n. e_goes n (Con q) (m_atom b r) t;
    }
  where
    built : (n : ℕ) → 1 ≤ n → undotted (m_atom b r) ≡ true → p_atom n (m_path q (m_atom b r)) ≡ (Con q, m_atom b r)
    built zero le u = absurd (omega (arith, le))
    built (suc n) le u = con_done n q (m_atom b r) h u

split_oper : (a : PAtom) (o : Bytes) (b : PAtom) → allowed.Atom a → is_any operators o ≡ true → Done a → Done b → (r : Marks) → full_stop r ≡ true → Split (Oper a o b) r (s_simple (Oper a o b))
split_oper a o b h k d c r s =
    let t : IsOperator o = one_of IsOperator operators o each_operator k in
    record {
      part = a;
      behind_it = oper o ∷ m_atom b r;
      starts = start_atom a h (oper o ∷ m_atom b r);
      first = λ n le. d n (omega (arith, le)) (oper o ∷ m_atom b r) (t.2 (m_atom b r));
      second = λ n le. rest_oper n a o b r (omega (arith, le)) t c (full_undotted r s);
      goes = λ n. t.1 n a (m_atom b r);
    }

abbrev FullDone : PFull → Type 0
FullDone e = (n : ℕ) → s_full e ≤ n → (r : Marks) → full_stop r ≡ true → p_full n (m_full e r) ≡ (e, r)

fun_by : (n : ℕ) (p : PAPat) (e : PFull) → allowed.APat p → (r : Marks) → full_stop r ≡ true → FullDone e → s_apat p + s_full e + 1 ≤ n → p_fun n (m_apat p (Arrow ∷ m_full e r)) ≡ (Fun p e, r)
fun_by zero p e h r s d le = absurd (omega (arith, le))
fun_by (suc n) p e h r s d le =
    ap (λ (z : PAPat × Marks). (Fun z.0 (p_full n (behind z.1)).0, (p_full n (behind z.1)).1)) (apat_done p h n (omega (arith, le)) (Arrow ∷ m_full e r) refl) ∙ ap (λ (z : PFull × Marks). (Fun p z.0, z.1)) (d n (omega (arith, le)) r s)

arm_by : (n : ℕ) (p : PPat) (a : PAtom) (xs : PArms) → allowed.Pat p → (r : Marks) → full_stop r ≡ true → Done a → ((n : ℕ) → s_arms xs ≤ n → (r : Marks) → full_stop r ≡ true → p_arms n (m_arms xs r) ≡ (xs, r)) → s_pat p + s_atom a + s_arms xs ≤ n
    → p_arms (suc n) (m_arms (MoreArms p a xs) r) ≡ (MoreArms p a xs, r)
arm_by n p a xs h r s d f le =
    ap (λ (z : PPat × Marks). with_arms n z.0 (p_atom n (behind z.1))) (pat_done p h n (omega (arith, le)) (Arrow ∷ m_atom a (m_arms xs r)) refl)
    ∙ (ap (with_arms n p) (d n (omega (arith, le)) (m_arms xs r) (arms_next xs r s)) ∙ ap (λ (z : PArms × Marks). (MoreArms p a z.0, z.1)) (f n (omega (arith, le)) r s))

abbrev with_binds : ℕ → PRBind × Marks → PRBinds × Marks
with_binds n b = (MoreBinds b.0 (p_more_binds n b.1).0, (p_more_binds n b.1).1)

abbrev rec_in : ℕ → PRBinds × Marks → PFull × Marks
rec_in n bs = (LetRecIn bs.0 (p_full n (behind bs.1)).0, (p_full n (behind bs.1)).1)

abbrev let_rec : PRBinds × Marks → PItem × Marks
let_rec bs = (LetRec bs.0, bs.1)

abbrev if_then : ℕ → PAtom → PAtom × Marks → PFull × Marks
if_then n a b = (If a b.0 (p_atom n (behind b.1)).0, (p_atom n (behind b.1)).1)

abbrev poly_type : ℕ → Mark → List Bytes → POTy × Marks → PRBind × Marks
poly_type n f vs t = (Poly (name_of f) vs t.0 (p_simple n (behind t.1)).0, (p_simple n (behind t.1)).1)

mutual
  atom_done : (a : PAtom) → allowed.Atom a → (n : ℕ) → s_atom a ≤ n → (r : Marks) → undotted r ≡ true → p_atom n (m_atom a r) ≡ (a, r)
  atom_done (Const l) h zero le r u = absurd (omega (arith, le))
  atom_done (Const l) h (suc n) le r u = refl
  atom_done (Val q) h zero le r u = absurd (omega (arith, le))
  atom_done (Val q) h (suc zero) le r u = absurd (omega (arith, le))
  atom_done (Val q) h (suc (suc n)) le r u = val_by n (is_bang q) q r refl h u
  atom_done (Con q) h zero le r u = absurd (omega (arith, le))
  atom_done (Con q) h (suc n) le r u = con_done n q r h u
  atom_done Nothing h zero le r u = absurd (omega (arith, le))
  atom_done Nothing h (suc zero) le r u = absurd (omega (arith, le))
  atom_done Nothing h (suc (suc n)) le r u = refl
  atom_done (Paren e) h zero le r u = absurd (omega (arith, le))
  atom_done (Paren e) h (suc zero) le r u = absurd (omega (arith, le))
  atom_done (Paren e) h (suc (suc zero)) le r u = absurd (omega (arith, le))
  atom_done (Paren e) (h, g) (suc (suc (suc n))) le r u =
      open_full (suc n) e h (Closed ∷ r) ∙ ap (p_close (suc n)) (full_done e h (suc n) (omega (arith, le)) (Closed ∷ r) refl)
  atom_done (Tuple a NoAtoms) h n le r u = absurd h
  atom_done (Tuple a (MoreAtoms b xs)) h zero le r u = absurd (omega (arith, le))
  atom_done (Tuple a (MoreAtoms b xs)) h (suc zero) le r u = absurd (omega (arith, le))
  atom_done (Tuple a (MoreAtoms b xs)) h (suc (suc zero)) le r u = absurd (omega (arith, le))
  atom_done (Tuple a (MoreAtoms b xs)) h (suc (suc (suc zero))) le r u = absurd (omega (arith, le))
  atom_done (Tuple a (MoreAtoms b xs)) h (suc (suc (suc (suc zero)))) le r u = absurd (omega (arith, le))
  atom_done (Tuple a (MoreAtoms b xs)) h (suc (suc (suc (suc (suc zero))))) le r u = absurd (omega (arith, le))
  atom_done (Tuple a (MoreAtoms b xs)) (h, g) (suc (suc (suc (suc (suc (suc n)))))) le r u =
      let s = m_more_atoms Comma (MoreAtoms b xs) (Closed ∷ r) in
      let t = start_atom a h s in
      let x = atom_done a h (suc (suc (suc n))) (omega (arith, le)) s refl in
      let y = commas_done (MoreAtoms b xs) g (suc (suc (suc n))) (omega (arith, le)) r in
      e_round (suc (suc (suc (suc n)))) (m_atom a s) t ∙ (ap (p_close (suc (suc (suc (suc n))))) (e_full (suc (suc (suc n))) (m_atom a s) t ∙ ap (p_after (suc (suc (suc n)))) x) ∙ ap (λ (z : PAtoms × Marks). (Tuple a z.0, behind z.1)) y)
  atom_done (Items NoAtoms) h zero le r u = absurd (omega (arith, le))
  atom_done (Items NoAtoms) h (suc zero) le r u = absurd (omega (arith, le))
  atom_done (Items NoAtoms) h (suc (suc n)) le r u = refl
  atom_done (Items (MoreAtoms a xs)) h zero le r u = absurd (omega (arith, le))
  atom_done (Items (MoreAtoms a xs)) h (suc zero) le r u = absurd (omega (arith, le))
  atom_done (Items (MoreAtoms a xs)) (h, g) (suc (suc n)) le r u =
      let s = m_more_atoms Semi xs (Unsquare ∷ r) in
      e_square n (m_atom a s) (start_atom a h s) ∙ (ap (listed n) (atom_done a h n (omega (arith, le)) s (atoms_next Semi Unsquare xs r refl refl)) ∙ ap (λ (z : PAtoms × Marks). (Items (MoreAtoms a z.0), behind z.1)) (semis_done xs g n (omega (arith, le)) r))

  commas_done : (xs : PAtoms) → allowed.EachAtom xs → (n : ℕ) → s_atoms xs ≤ n → (r : Marks) → p_more_atoms n (m_more_atoms Comma xs (Closed ∷ r)) ≡ (xs, Closed ∷ r)
  commas_done NoAtoms h zero le r = absurd (omega (arith, le))
  commas_done NoAtoms h (suc n) le r = refl
  commas_done (MoreAtoms a xs) h zero le r = absurd (omega (arith, le))
  commas_done (MoreAtoms a xs) (h, g) (suc n) le r =
      ap (with_atoms n) (atom_done a h n (omega (arith, le)) (m_more_atoms Comma xs (Closed ∷ r)) (atoms_next Comma Closed xs r refl refl)) ∙ ap (λ (z : PAtoms × Marks). (MoreAtoms a z.0, z.1)) (commas_done xs g n (omega (arith, le)) r)

  semis_done : (xs : PAtoms) → allowed.EachAtom xs → (n : ℕ) → s_atoms xs ≤ n → (r : Marks) → p_more_atoms n (m_more_atoms Semi xs (Unsquare ∷ r)) ≡ (xs, Unsquare ∷ r)
  semis_done NoAtoms h zero le r = absurd (omega (arith, le))
  semis_done NoAtoms h (suc n) le r = refl
  semis_done (MoreAtoms a xs) h zero le r = absurd (omega (arith, le))
  semis_done (MoreAtoms a xs) (h, g) (suc n) le r =
      ap (with_atoms n) (atom_done a h n (omega (arith, le)) (m_more_atoms Semi xs (Unsquare ∷ r)) (atoms_next Semi Unsquare xs r refl refl)) ∙ ap (λ (z : PAtoms × Marks). (MoreAtoms a z.0, z.1)) (semis_done xs g n (omega (arith, le)) r)

  arms_done : (xs : PArms) → allowed.EachArm xs → (n : ℕ) → s_arms xs ≤ n → (r : Marks) → full_stop r ≡ true → p_arms n (m_arms xs r) ≡ (xs, r)
  arms_done NoArms h zero le r s = absurd (omega (arith, le))
  arms_done NoArms h (suc n) le r s = arms_stop n r s
  arms_done (MoreArms p a xs) h zero le r s = absurd (omega (arith, le))
  arms_done (MoreArms p a xs) (h, g, i) (suc n) le r s =
      ap (λ (z : PPat × Marks). with_arms n z.0 (p_atom n (behind z.1))) (pat_done p h n (omega (arith, le)) (Arrow ∷ m_atom a (m_arms xs r)) refl)
      ∙ (ap (with_arms n p) (atom_done a g n (omega (arith, le)) (m_arms xs r) (arms_next xs r s)) ∙ ap (λ (z : PArms × Marks). (MoreArms p a z.0, z.1)) (arms_done xs i n (omega (arith, le)) r s))

  simple_done : (e : PSimple) → allowed.Simple e → (n : ℕ) → s_simple e + 3 ≤ n → (r : Marks) → full_stop r ≡ true → p_simple n (m_simple e r) ≡ (e, r)
  simple_done (One a) h n le r s = simple_by (One a) r (s_simple (One a)) (split_one a h (atom_done a h) r s) n le
  simple_done (Call a b) (h, k, m) n le r s = simple_by (Call a b) r (s_simple (Call a b)) (split_call a b h k m (atom_done a h) (atom_done b m) r s) n le
  simple_done (Build q b) (h, k) n le r s = simple_by (Build q b) r (s_simple (Build q b)) (split_build q b h k (atom_done b k) r s) n le
  simple_done (Oper a o b) (h, k, m) n le r s = simple_by (Oper a o b) r (s_simple (Oper a o b)) (split_oper a o b h k (atom_done a h) (atom_done b m) r s) n le
  simple_done (Fun p e) h zero le r s = absurd (omega (arith, le))
  simple_done (Fun p e) (h, k) (suc n) le r s = fun_by n p e h r s (full_done e k) (omega (arith, le))

  simple_full : (e : PSimple) → allowed.Simple e → (n : ℕ) → s_simple e + 3 ≤ n → (r : Marks) → full_stop r ≡ true → p_full n (m_simple e r) ≡ (Is e, r)
  simple_full (One a) h n le r s = full_by (One a) r (s_simple (One a)) (split_one a h (atom_done a h) r s) n le
  simple_full (Call a b) (h, k, m) n le r s = full_by (Call a b) r (s_simple (Call a b)) (split_call a b h k m (atom_done a h) (atom_done b m) r s) n le
  simple_full (Build q b) (h, k) n le r s = full_by (Build q b) r (s_simple (Build q b)) (split_build q b h k (atom_done b k) r s) n le
  simple_full (Oper a o b) (h, k, m) n le r s = full_by (Oper a o b) r (s_simple (Oper a o b)) (split_oper a o b h k (atom_done a h) (atom_done b m) r s) n le
  simple_full (Fun p e) h zero le r s = absurd (omega (arith, le))
  simple_full (Fun p e) (h, k) (suc n) le r s = ap (λ (z : PSimple × Marks). (Is z.0, z.1)) (fun_by n p e h r s (full_done e k) (omega (arith, le)))

  full_done : (e : PFull) → allowed.Full e → (n : ℕ) → s_full e ≤ n → (r : Marks) → full_stop r ≡ true → p_full n (m_full e r) ≡ (e, r)
  full_done (Is e) h n le r s = simple_full e h n (omega (arith, le)) r s
  full_done (LetIn p e f) h zero le r s = absurd (omega (arith, le))
  full_done (LetIn p e f) h (suc zero) le r s = absurd (omega (arith, le))
  full_done (LetIn p e f) (h, k, m) (suc (suc n)) le r s =
      let t = Equal ∷ m_simple e (KIn ∷ m_full f r) in
      start_let n (m_pat p t) (start_pat p h t) ∙ (ap (let_in n) (pat_done p h n (omega (arith, le)) t refl)
      ∙ (ap (λ (z : PSimple × Marks). (LetIn p z.0 (p_full n (behind z.1)).0, (p_full n (behind z.1)).1)) (simple_done e k n (omega (arith, le)) (KIn ∷ m_full f r) refl)
      ∙ ap (λ (z : PFull × Marks). (LetIn p e z.0, z.1)) (full_done f m n (omega (arith, le)) r s)))
  full_done (LetRecIn NoBinds f) h n le r s = absurd h
  full_done (LetRecIn (MoreBinds b bs) f) h zero le r s = absurd (omega (arith, le))
  full_done (LetRecIn (MoreBinds b bs) f) h (suc zero) le r s = absurd (omega (arith, le))
  full_done (LetRecIn (MoreBinds b bs) f) ((h, k), m) (suc (suc zero)) le r s = absurd (omega (arith, le))
  full_done (LetRecIn (MoreBinds b bs) f) ((h, k), m) (suc (suc (suc n))) le r s =
      ap (λ (z : PRBind × Marks). rec_in (suc n) (with_binds n z)) (bind_done b h n (omega (arith, le)) (m_more_rbinds bs (KIn ∷ m_full f r)) (binds_next bs (KIn ∷ m_full f r) refl))
      ∙ (ap (λ (z : PRBinds × Marks). rec_in (suc n) (MoreBinds b z.0, z.1)) (binds_done bs k n (omega (arith, le)) (KIn ∷ m_full f r) refl)
      ∙ ap (λ (z : PFull × Marks). (LetRecIn (MoreBinds b bs) z.0, z.1)) (full_done f m (suc n) (omega (arith, le)) r s))
  full_done (LetMod x is f) h zero le r s = absurd (omega (arith, le))
  full_done (LetMod x is f) h (suc zero) le r s = absurd (omega (arith, le))
  full_done (LetMod x is f) (h, k, m) (suc (suc n)) le r s =
      ap (λ (z : PItems × Marks). (LetMod (name_of (nm x)) z.0 (p_full n (behind (behind z.1))).0, (p_full n (behind (behind z.1))).1)) (items_done is k n (omega (arith, le)) (KEnd ∷ KIn ∷ m_full f r) refl)
      ∙ (ap (λ (z : PFull × Marks). (LetMod (name_of (nm x)) is z.0, z.1)) (full_done f m n (omega (arith, le)) r s)
      ∙ ap (λ (k : Mark). (LetMod (name_of k) is f, r)) (cap_mark x h))
  full_done (LetExn x t f) h zero le r s = absurd (omega (arith, le))
  full_done (LetExn x t f) h (suc zero) le r s = absurd (omega (arith, le))
  full_done (LetExn x t f) (h, m) (suc (suc n)) le r s =
      ap (λ (c : (Bytes × Option PATy) × Marks). (LetExn c.0.0 c.0.1 (p_full n (behind c.1)).0, (p_full n (behind c.1)).1)) (cons_done x t h n (omega (arith, le)) (KIn ∷ m_full f r) refl)
      ∙ ap (λ (z : PFull × Marks). (LetExn x t z.0, z.1)) (full_done f m n (omega (arith, le)) r s)
  full_done (If a b c) h zero le r s = absurd (omega (arith, le))
  full_done (If a b c) (h, k, m) (suc n) le r s =
      ap (λ (z : PAtom × Marks). if_then n z.0 (p_atom n (behind z.1))) (atom_done a h n (omega (arith, le)) (KThen ∷ m_atom b (KElse ∷ m_atom c r)) refl)
      ∙ (ap (if_then n a) (atom_done b k n (omega (arith, le)) (KElse ∷ m_atom c r) refl)
      ∙ ap (λ (z : PAtom × Marks). (If a b z.0, z.1)) (atom_done c m n (omega (arith, le)) r (full_undotted r s)))
  full_done (Match a NoArms) h n le r s = absurd h
  full_done (Match a (MoreArms p b xs)) h zero le r s = absurd (omega (arith, le))
  full_done (Match a (MoreArms p b xs)) h (suc zero) le r s = absurd (omega (arith, le))
  full_done (Match a (MoreArms p b xs)) (h, (k, m, i)) (suc (suc n)) le r s =
      ap (λ (z : PAtom × Marks). (Match z.0 (p_arms (suc n) (behind z.1)).0, (p_arms (suc n) (behind z.1)).1)) (atom_done a h (suc n) (omega (arith, le)) (KWith ∷ m_arms (MoreArms p b xs) r) refl)
      ∙ ap (λ (z : PArms × Marks). (Match a z.0, z.1)) (arm_by n p b xs k r s (atom_done b m) (arms_done xs i) (omega (arith, le)))
  full_done (Try a NoArms) h n le r s = absurd h
  full_done (Try a (MoreArms p b xs)) h zero le r s = absurd (omega (arith, le))
  full_done (Try a (MoreArms p b xs)) h (suc zero) le r s = absurd (omega (arith, le))
  full_done (Try a (MoreArms p b xs)) (h, (k, m, i)) (suc (suc n)) le r s =
      ap (λ (z : PAtom × Marks). (Try z.0 (p_arms (suc n) (behind z.1)).0, (p_arms (suc n) (behind z.1)).1)) (atom_done a h (suc n) (omega (arith, le)) (KWith ∷ m_arms (MoreArms p b xs) r) refl)
      ∙ ap (λ (z : PArms × Marks). (Try a z.0, z.1)) (arm_by n p b xs k r s (atom_done b m) (arms_done xs i) (omega (arith, le)))
  full_done (While a e) h zero le r s = absurd (omega (arith, le))
  full_done (While a e) (h, k) (suc n) le r s =
      ap (λ (z : PAtom × Marks). (While z.0 (p_full n (behind z.1)).0, behind (p_full n (behind z.1)).1)) (atom_done a h n (omega (arith, le)) (KDo ∷ m_full e (KDone ∷ r)) refl)
      ∙ ap (λ (z : PFull × Marks). (While a z.0, behind z.1)) (full_done e k n (omega (arith, le)) (KDone ∷ r) refl)
  full_done (Then a e) h zero le r s = absurd (omega (arith, le))
  full_done (Then a e) h (suc zero) le r s = absurd (omega (arith, le))
  full_done (Then a e) (h, k) (suc (suc n)) le r s =
      e_full (suc n) (m_atom a (Semi ∷ m_full e r)) (start_atom a h (Semi ∷ m_full e r)) ∙ (ap (p_after (suc n)) (atom_done a h (suc n) (omega (arith, le)) (Semi ∷ m_full e r) refl)
      ∙ ap (λ (z : PFull × Marks). (Then a z.0, z.1)) (full_done e k n (omega (arith, le)) r s))

  bind_done : (b : PRBind) → allowed.Bind b → (n : ℕ) → s_bind b ≤ n → (r : Marks) → full_stop r ≡ true → p_bind n (m_rbind b r) ≡ (b, r)
  bind_done (Plain f e) h zero le r s = absurd (omega (arith, le))
  bind_done (Plain f e) (h, k, m) (suc n) le r s =
      ap (λ (z : PSimple × Marks). (Plain (name_of (nm f)) z.0, z.1)) (simple_done e k n (omega (arith, le)) r s) ∙ ap (λ (k : Mark). (Plain (name_of k) e, r)) (low_mark f h)
  bind_done (Poly f [] t e) h n le r s = absurd h
  bind_done (Poly f (v ∷ vs) t e) h zero le r s = absurd (omega (arith, le))
  bind_done (Poly f (v ∷ vs) t e) (h, k, m, i, j) (suc n) le r s =
      ap (λ (z : List Bytes × Marks). poly_type n (nm f) z.0 (p_type n (behind z.1))) (tyvars_done (v ∷ vs) (Dot ∷ m_type t (Equal ∷ m_simple e r)) refl)
      ∙ (ap (poly_type n (nm f) (v ∷ vs)) (type_done t m n (omega (arith, le)) (Equal ∷ m_simple e r) refl)
      ∙ (ap (λ (z : PSimple × Marks). (Poly (name_of (nm f)) (v ∷ vs) t z.0, z.1)) (simple_done e i n (omega (arith, le)) r s)
      ∙ ap (λ (k : Mark). (Poly (name_of k) (v ∷ vs) t e, r)) (low_mark f h)))

  binds_done : (bs : PRBinds) → allowed.EachBind bs → (n : ℕ) → s_binds bs ≤ n → (r : Marks) → binds_stop r ≡ true → p_more_binds n (m_more_rbinds bs r) ≡ (bs, r)
  binds_done NoBinds h zero le r s = absurd (omega (arith, le))
  binds_done NoBinds h (suc n) le r s = more_binds_stop n r s
  binds_done (MoreBinds b bs) h zero le r s = absurd (omega (arith, le))
  binds_done (MoreBinds b bs) (h, k) (suc n) le r s =
      ap (with_binds n) (bind_done b h n (omega (arith, le)) (m_more_rbinds bs r) (binds_next bs r s)) ∙ ap (λ (z : PRBinds × Marks). (MoreBinds b z.0, z.1)) (binds_done bs k n (omega (arith, le)) r s)

  item_done : (i : PItem) → allowed.Item i → (n : ℕ) → s_item i ≤ n → (r : Marks) → item_stop r ≡ true → p_item n (m_item i r) ≡ (i, r)
  item_done (Let p e) h zero le r s = absurd (omega (arith, le))
  item_done (Let p e) (h, k) (suc n) le r s =
      let t = Equal ∷ m_simple e r in
      start_item n (m_pat p t) (start_pat p h t) ∙ (ap (item_let n) (pat_done p h n (omega (arith, le)) t refl) ∙ ap (λ (z : PSimple × Marks). (Let p z.0, z.1)) (simple_done e k n (omega (arith, le)) r (item_full r s)))
  item_done (LetRec NoBinds) h n le r s = absurd h
  item_done (LetRec (MoreBinds b bs)) h zero le r s = absurd (omega (arith, le))
  item_done (LetRec (MoreBinds b bs)) h (suc zero) le r s = absurd (omega (arith, le))
  item_done (LetRec (MoreBinds b bs)) (h, k) (suc (suc n)) le r s =
      ap (λ (z : PRBind × Marks). let_rec (with_binds n z)) (bind_done b h n (omega (arith, le)) (m_more_rbinds bs r) (binds_next bs r (item_binds r s)))
      ∙ ap (λ (z : PRBinds × Marks). (LetRec (MoreBinds b z.0), z.1)) (binds_done bs k n (omega (arith, le)) r (item_binds r s))
  item_done (Types []) h n le r s = absurd h
  item_done (Types (d ∷ ds)) h zero le r s = absurd (omega (arith, le))
  item_done (Types (d ∷ ds)) h (suc n) le r s = ap (λ (z : List PTDef × Marks). (Types z.0, z.1)) (definitions_done d ds h n (omega (arith, le)) r (item_defs r s))
  item_done (Exn x t) h zero le r s = absurd (omega (arith, le))
  item_done (Exn x t) h (suc n) le r s = exn_by n x t r s ∙ ap item_exn (cons_done x t h n (omega (arith, le)) r (item_cons r s))
  item_done (ExnAs x q) h zero le r s = absurd (omega (arith, le))
  item_done (ExnAs x q) (h, k) (suc n) le r s =
      ap (λ (z : Long × Marks). (ExnAs (name_of (nm x)) z.0, z.1)) (path_done q r (constructor_path q k) (full_undotted r (item_full r s))) ∙ ap (λ (k : Mark). (ExnAs (name_of k) q, r)) (cap_mark x h)
  item_done (Module x m) h zero le r s = absurd (omega (arith, le))
  item_done (Module x m) (h, k) (suc n) le r s =
      ap (λ (z : PMExp × Marks). (Module (name_of (nm x)) z.0, z.1)) (mexp_done m k n (omega (arith, le)) r (item_mexp r s)) ∙ ap (λ (k : Mark). (Module (name_of k) m, r)) (cap_mark x h)
  item_done (Sealed x g m) h zero le r s = absurd (omega (arith, le))
  item_done (Sealed x g m) (h, k, i) (suc n) le r s =
      ap (λ (z : PMSig × Marks). (Sealed (name_of (nm x)) z.0 (p_mexp n (behind z.1)).0, (p_mexp n (behind z.1)).1)) (msig_done g k n (omega (arith, le)) (Equal ∷ m_mexp m r))
      ∙ (ap (λ (z : PMExp × Marks). (Sealed (name_of (nm x)) g z.0, z.1)) (mexp_done m i n (omega (arith, le)) r (item_mexp r s)) ∙ ap (λ (k : Mark). (Sealed (name_of k) g m, r)) (cap_mark x h))
  item_done (Functor x y g m) h zero le r s = absurd (omega (arith, le))
  item_done (Functor x y g m) (h, k, i, j) (suc n) le r s =
      ap (λ (z : PMSig × Marks). (Functor (name_of (nm x)) (name_of (nm y)) z.0 (p_mexp n (behind (behind (behind (behind z.1))))).0, (p_mexp n (behind (behind (behind (behind z.1))))).1)) (msig_done g i n (omega (arith, le)) (Closed ∷ Round ∷ Closed ∷ Equal ∷ m_mexp m r))
      ∙ (ap (λ (z : PMExp × Marks). (Functor (name_of (nm x)) (name_of (nm y)) g z.0, z.1)) (mexp_done m j n (omega (arith, le)) r (item_mexp r s))
      ∙ (ap (λ (k : Mark). (Functor (name_of k) (name_of (nm y)) g m, r)) (cap_mark x h) ∙ ap (λ (k : Mark). (Functor x (name_of k) g m, r)) (cap_mark y k)))

  items_done : (is : PItems) → allowed.EachItem is → (n : ℕ) → s_items is ≤ n → (r : Marks) → items_stop r ≡ true → p_items n (m_items is r) ≡ (is, r)
  items_done NoItems h zero le r s = absurd (omega (arith, le))
  items_done NoItems h (suc n) le r s = items_end n r s
  items_done (MoreItems i is) h zero le r s = absurd (omega (arith, le))
  items_done (MoreItems i is) (h, k) (suc n) le r s =
      items_more n i (m_items is r) ∙ (ap (with_items n) (item_done i h n (omega (arith, le)) (m_items is r) (item_next is r s)) ∙ ap (λ (z : PItems × Marks). (MoreItems i z.0, z.1)) (items_done is k n (omega (arith, le)) r s))

  mexp_done : (m : PMExp) → allowed.MExp m → (n : ℕ) → s_mexp m ≤ n → (r : Marks) → mexp_stop r ≡ true → p_mexp n (m_mexp m r) ≡ (m, r)
  mexp_done (MAt q) h zero le r s = absurd (omega (arith, le))
  mexp_done (MAt q) h (suc n) le r s = module_by n q r h ∙ (ap p_apply (path_done q r (module_path q h) (mexp_undotted r s)) ∙ apply_stop q r s)
  mexp_done (Struct is) h zero le r s = absurd (omega (arith, le))
  mexp_done (Struct is) h (suc n) le r s = ap (λ (z : PItems × Marks). (Struct z.0, behind z.1)) (items_done is h n (omega (arith, le)) (KEnd ∷ r) refl)
  mexp_done (Apply f a) h zero le r s = absurd (omega (arith, le))
  mexp_done (Apply f a) (h, k) (suc n) le r s =
      let t = Round ∷ m_path a (Closed ∷ Round ∷ Closed ∷ r) in
      module_by n f t h ∙ (ap p_apply (path_done f t (module_path f h) refl) ∙ ap (λ (z : Long × Marks). (Apply f z.0, behind (behind (behind z.1)))) (path_done a (Closed ∷ Round ∷ Closed ∷ r) (module_path a k) refl))
  mexp_done (MSeal m g) h zero le r s = absurd (omega (arith, le))
  mexp_done (MSeal m g) (h, k) (suc n) le r s =
      ap (λ (z : PMExp × Marks). (MSeal z.0 (p_msig n (behind z.1)).0, behind (p_msig n (behind z.1)).1)) (mexp_done m h n (omega (arith, le)) (Colon ∷ m_msig g (Closed ∷ r)) refl)
      ∙ ap (λ (z : PMSig × Marks). (MSeal m z.0, behind z.1)) (msig_done g k n (omega (arith, le)) (Closed ∷ r))

-- ---- texts

pub text_done : (t : PItems) → allowed.Allowed t → (n : ℕ) → s_items t ≤ n → p_items n (m_items t []) ≡ (t, [])
text_done t h n le = items_done t h n le [] refl
