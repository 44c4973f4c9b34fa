-- A decoder of marks: it gives the tree of the marks that a tree has, and anything else for other marks.
use Rattle.std.proofs.Common.{ℕ, zero, suc, Bool, true, false, List, [], ◌∷◌, Option, Some, None}
use Rattle.std.specs.Prelude.{codes, if◌then◌else◌}
use Rattle.oc_ast.specs.Plain.{Bytes, Long, PATy, PATys, NoATys, MoreATys, POTy, POTys, NoTys, MoreTys, TVar, TCon, TParen, TAt, TArrow, TTuple, Cons, PTDef, Alias, Variant, PAPat, Any, PVar, PConst, PCon, PUnit, PParen, PTuple, PNil, PCell, PAPats, NoPats, MorePats, PPat, PAt, PBuild, PCons, PAs, PMSig, Sig, PSItem, SVal, STypes, SAbs, SExn, SModule, PSItems, NoSItems, MoreSItems, PAtom, Const, Val, Con, Nothing, Paren, Tuple, Items, PAtoms, NoAtoms, MoreAtoms, PArms, NoArms, MoreArms, PFull, Is, LetIn, LetRecIn, LetMod, LetExn, If, Match, Try, While, Then, PItem, Let, LetRec, Types, Exn, ExnAs, Module, Sealed, Functor, PItems, NoItems, MoreItems, PMExp, MAt, Struct, Apply, MSeal, PRBind, Plain, Poly, PRBinds, NoBinds, MoreBinds, PSimple, One, Call, Build, Oper, Fun}
use Rattle.oc_mirror.proofs.Marks.{Mark, Marks, KAnd, KAs, KEnd, KException, KFun, KIf, KLet, KMatch, KModule, KOf, KRec, KStruct, KTry, KType, KVal, KWhile, Low, Up, Tv, Lt, Round, Closed, Square, Unsquare, Curly, Comma, Semi, Dot, Colon, Equal, Arrow, Bar, Under, Bang, Star, Pair, Opr}
use Rattle.oc_rules.specs.Bytes.{is_small, heads}

-- without the first mark
abbrev pub behind : Marks → Marks
behind [] = []
behind (k ∷ s) = s

abbrev pub name_of : Mark → Bytes
name_of (Low x) = x
name_of (Up x) = x
name_of k = []

abbrev pub first_name : Marks → Bytes
first_name [] = []
first_name (k ∷ s) = name_of k

-- ---- paths

abbrev pub p_more_path : Marks → Long × Marks
p_more_path (Dot ∷ Low x ∷ s) = let t = p_more_path s in (x ∷ t.0, t.1)
p_more_path (Dot ∷ Up x ∷ s) = let t = p_more_path s in (x ∷ t.0, t.1)
p_more_path s = ([], s)

abbrev pub p_long : Marks → Long × Marks
p_long (Low x ∷ s) = (x ∷ [], s)
p_long (Up x ∷ s) = let t = p_more_path s in (x ∷ t.0, t.1)
p_long s = ([], s)

-- ---- type variables

abbrev pub p_tyvars : Marks → List Bytes × Marks
p_tyvars (Tv v ∷ s) = let t = p_tyvars s in (v ∷ t.0, t.1)
p_tyvars s = ([], s)

abbrev pub p_more_params : Marks → List Bytes × Marks
p_more_params (Comma ∷ Tv v ∷ s) = let t = p_more_params s in (v ∷ t.0, t.1)
p_more_params s = ([], s)

abbrev pub p_params : Marks → List Bytes × Marks
p_params (Tv v ∷ s) = (v ∷ [], s)
p_params (Round ∷ Tv v ∷ s) = let t = p_more_params s in (v ∷ t.0, behind t.1)
p_params s = ([], s)

-- ---- types

abbrev pub p_post : ℕ → PATy × Marks → PATy × Marks
p_post zero x = x
p_post (suc n) (t, Low x ∷ s) = p_post n (TCon (MoreTys (TAt t) NoTys) (x ∷ []), s)
p_post (suc n) (t, Up x ∷ s) = let q = p_more_path s in p_post n (TCon (MoreTys (TAt t) NoTys) (x ∷ q.0), q.1)
p_post (suc n) (t, s) = (t, s)

abbrev mutual
  pub p_base : ℕ → Marks → PATy × Marks
  p_base zero s = (TVar [], s)
  p_base (suc n) (Tv v ∷ s) = (TVar v, s)
  p_base (suc n) (Round ∷ s) = p_bround n (p_type n s)
  p_base (suc n) s = let q = p_long s in (TCon NoTys q.0, q.1)

  pub p_bround : ℕ → POTy × Marks → PATy × Marks
  p_bround zero x = (TVar [], [])
  p_bround (suc n) (t, Comma ∷ s) = let ts = p_args n (Comma ∷ s) in let q = p_long (behind ts.1) in (TCon (MoreTys t ts.0) q.0, q.1)
  p_bround (suc n) (t, s) = (TParen t, behind s)

  pub p_args : ℕ → Marks → POTys × Marks
  p_args zero s = (NoTys, s)
  p_args (suc n) (Comma ∷ s) = let t = p_type n s in let ts = p_args n t.1 in (MoreTys t.0 ts.0, ts.1)
  p_args (suc n) s = (NoTys, s)

  pub p_part : ℕ → Marks → PATy × Marks
  p_part zero s = (TVar [], s)
  p_part (suc n) s = p_post n (p_base n s)

  pub p_type : ℕ → Marks → POTy × Marks
  p_type zero s = (TAt (TVar []), s)
  p_type (suc n) s = p_tafter n (p_part n s)

  pub p_tafter : ℕ → PATy × Marks → POTy × Marks
  p_tafter zero x = (TAt x.0, x.1)
  p_tafter (suc n) (t, Arrow ∷ s) = let u = p_type n s in (TArrow t u.0, u.1)
  p_tafter (suc n) (t, Star ∷ s) = let us = p_factors n (Star ∷ s) in (TTuple t us.0, us.1)
  p_tafter (suc n) (t, s) = (TAt t, s)

  pub p_factors : ℕ → Marks → PATys × Marks
  p_factors zero s = (NoATys, s)
  p_factors (suc n) (Star ∷ s) = let t = p_part n s in let ts = p_factors n t.1 in (MoreATys t.0 ts.0, ts.1)
  p_factors (suc n) s = (NoATys, s)

-- ---- definitions of types; they take the fuel for each type in them

abbrev pub p_arg : ℕ → Marks → Option PATy × Marks
p_arg n (KOf ∷ s) = let t = p_part n s in (Some t.0, t.1)
p_arg n s = (None, s)

abbrev pub p_more_cons : ℕ → ℕ → Marks → Cons × Marks
p_more_cons zero n s = ([], s)
p_more_cons (suc m) n (Bar ∷ s) = let t = p_arg n (behind s) in let cs = p_more_cons m n t.1 in ((first_name s, t.0) ∷ cs.0, cs.1)
p_more_cons (suc m) n s = ([], s)

abbrev pub p_variants : ℕ → Marks → Cons × Marks
p_variants n s = let t = p_arg n (behind s) in let cs = p_more_cons n n t.1 in ((first_name s, t.0) ∷ cs.0, cs.1)

-- whether constructors stand here, and no type
abbrev pub is_variants : Marks → Bool
is_variants (Up x ∷ Dot ∷ s) = false
is_variants (Up x ∷ s) = true
is_variants s = false

abbrev pub p_second : ℕ → List Bytes → Bytes → POTy × Marks → PTDef × Marks
p_second n vs x (t, Equal ∷ s) = let cs = p_variants n s in (Variant vs x (Some t) cs.0, cs.1)
p_second n vs x (t, s) = (Alias vs x t, s)

abbrev pub p_right : Bool → ℕ → List Bytes → Bytes → Marks → PTDef × Marks
p_right true n vs x s = let cs = p_variants n s in (Variant vs x None cs.0, cs.1)
p_right false n vs x s = p_second n vs x (p_type n s)

abbrev pub p_definition : ℕ → Marks → PTDef × Marks
p_definition n s = let vs = p_params s in p_right (is_variants (behind (behind vs.1))) n vs.0 (first_name vs.1) (behind (behind vs.1))

abbrev pub p_more_definitions : ℕ → ℕ → Marks → List PTDef × Marks
p_more_definitions zero n s = ([], s)
p_more_definitions (suc m) n (KAnd ∷ s) = let d = p_definition n s in let ds = p_more_definitions m n d.1 in (d.0 ∷ ds.0, ds.1)
p_more_definitions (suc m) n s = ([], s)

-- behind the word `type`
abbrev pub p_definitions : ℕ → Marks → List PTDef × Marks
p_definitions n s = let d = p_definition n s in let ds = p_more_definitions n n d.1 in (d.0 ∷ ds.0, ds.1)

-- ---- patterns

abbrev pub bare_pat : PPat → PAPat
bare_pat (PAt p) = p
bare_pat (PBuild q p) = Any
bare_pat (PCons p q) = Any
bare_pat (PAs p x) = Any

abbrev pub path_in : PAPat → Long
path_in (PCon q) = q
path_in Any = []
path_in (PVar x) = []
path_in (PConst l) = []
path_in PUnit = []
path_in (PParen p) = []
path_in (PTuple p ps) = []
path_in PNil = []
path_in (PCell p) = []

abbrev mutual
  pub p_apat : ℕ → Marks → PAPat × Marks
  p_apat zero s = (Any, s)
  p_apat (suc n) (Under ∷ s) = (Any, s)
  p_apat (suc n) (Low x ∷ s) = (PVar x, s)
  p_apat (suc n) (Lt l ∷ s) = (PConst l, s)
  p_apat (suc n) (Round ∷ s) = p_pround n s
  p_apat (suc n) (Square ∷ s) = (PNil, behind s)
  p_apat (suc n) (Curly ∷ s) = let p = p_pat n (behind (behind s)) in (PCell p.0, behind p.1)
  p_apat (suc n) s = let q = p_long s in (PCon q.0, q.1)

  pub p_pround : ℕ → Marks → PAPat × Marks
  p_pround zero s = (Any, s)
  p_pround (suc n) (Closed ∷ s) = (PUnit, s)
  p_pround (suc n) s = p_pclose n (p_pat n s)

  pub p_pclose : ℕ → PPat × Marks → PAPat × Marks
  p_pclose zero x = (Any, [])
  p_pclose (suc n) (p, Comma ∷ s) = let ps = p_more_apats n (Comma ∷ s) in (PTuple (bare_pat p) ps.0, behind ps.1)
  p_pclose (suc n) (p, s) = (PParen p, behind s)

  pub p_more_apats : ℕ → Marks → PAPats × Marks
  p_more_apats zero s = (NoPats, s)
  p_more_apats (suc n) (Comma ∷ s) = let p = p_apat n s in let ps = p_more_apats n p.1 in (MorePats p.0 ps.0, ps.1)
  p_more_apats (suc n) s = (NoPats, s)

  pub p_pat : ℕ → Marks → PPat × Marks
  p_pat zero s = (PAt Any, s)
  p_pat (suc n) s = p_pafter n (p_apat n s)

  pub p_pafter : ℕ → PAPat × Marks → PPat × Marks
  p_pafter zero x = (PAt x.0, x.1)
  p_pafter (suc n) (p, Pair ∷ s) = let q = p_apat n s in (PCons p q.0, q.1)
  p_pafter (suc n) (p, KAs ∷ s) = (PAs p (first_name s), behind s)
  p_pafter (suc n) (p, Under ∷ s) = let q = p_apat n (Under ∷ s) in (PBuild (path_in p) q.0, q.1)
  p_pafter (suc n) (p, Low x ∷ s) = let q = p_apat n (Low x ∷ s) in (PBuild (path_in p) q.0, q.1)
  p_pafter (suc n) (p, Up x ∷ s) = let q = p_apat n (Up x ∷ s) in (PBuild (path_in p) q.0, q.1)
  p_pafter (suc n) (p, Lt l ∷ s) = let q = p_apat n (Lt l ∷ s) in (PBuild (path_in p) q.0, q.1)
  p_pafter (suc n) (p, Round ∷ s) = let q = p_apat n (Round ∷ s) in (PBuild (path_in p) q.0, q.1)
  p_pafter (suc n) (p, Square ∷ s) = let q = p_apat n (Square ∷ s) in (PBuild (path_in p) q.0, q.1)
  p_pafter (suc n) (p, Curly ∷ s) = let q = p_apat n (Curly ∷ s) in (PBuild (path_in p) q.0, q.1)
  p_pafter (suc n) (p, s) = (PAt p, s)

-- ---- signatures

abbrev pub p_cons_of : ℕ → Marks → (Bytes × Option PATy) × Marks
p_cons_of n s = let t = p_arg n (behind s) in ((first_name s, t.0), t.1)

-- behind the word `type`: an abstract type, or definitions
abbrev pub p_types_by : ℕ → Marks → List Bytes × Marks → PSItem × Marks
p_types_by n s (vs, []) = (SAbs vs [], [])
p_types_by n s (vs, x ∷ Equal ∷ r) = let ds = p_definitions n s in (STypes ds.0, ds.1)
p_types_by n s (vs, x ∷ r) = (SAbs vs (name_of x), r)

abbrev mutual
  pub p_msig : ℕ → Marks → PMSig × Marks
  p_msig zero s = (Sig NoSItems, s)
  p_msig (suc n) s = let is = p_sitems n (behind s) in (Sig is.0, behind is.1)

  pub p_sitem : ℕ → Marks → PSItem × Marks
  p_sitem zero s = (SAbs [] [], s)
  p_sitem (suc n) (KVal ∷ s) = let t = p_type n (behind (behind s)) in (SVal (first_name s) t.0, t.1)
  p_sitem (suc n) (KType ∷ s) = p_types_by n s (p_params s)
  p_sitem (suc n) (KException ∷ s) = let c = p_cons_of n s in (SExn c.0.0 c.0.1, c.1)
  p_sitem (suc n) s = let m = p_msig n (behind (behind (behind s))) in (SModule (first_name (behind s)) m.0, m.1)

  pub p_sitems : ℕ → Marks → PSItems × Marks
  p_sitems zero s = (NoSItems, s)
  p_sitems (suc n) [] = (NoSItems, [])
  p_sitems (suc n) (KEnd ∷ s) = (NoSItems, KEnd ∷ s)
  p_sitems (suc n) (k ∷ s) = let i = p_sitem n (k ∷ s) in let is = p_sitems n i.1 in (MoreSItems i.0 is.0, is.1)

-- ---- expressions, modules and items

abbrev pub bare : PFull → PAtom
bare (Is (One a)) = a
bare e = Nothing

-- a call, or a constructor with its argument
abbrev pub call : PAtom → PAtom → PSimple
call (Con q) b = Build q b
call (Const l) b = Call (Const l) b
call (Val q) b = Call (Val q) b
call Nothing b = Call Nothing b
call (Paren e) b = Call (Paren e) b
call (Tuple a xs) b = Call (Tuple a xs) b
call (Items xs) b = Call (Items xs) b

-- whether the last name of a path, behind its first, has a small letter first
abbrev pub ends_small : Long → Bool
ends_small [] = false
ends_small (n ∷ []) = heads is_small n
ends_small (n ∷ m ∷ q) = ends_small (m ∷ q)

abbrev pub value_or_con : Bytes → Long × Marks → PAtom × Marks
value_or_con x (q, s) = (if ends_small q then Val (x ∷ q) else Con (x ∷ q), s)

abbrev pub p_apply : Long × Marks → PMExp × Marks
p_apply (f, Round ∷ s) = let a = p_long s in (Apply f a.0, behind (behind (behind a.1)))
p_apply (f, s) = (MAt f, s)

abbrev mutual
  pub p_atom : ℕ → Marks → PAtom × Marks
  p_atom zero s = (Nothing, s)
  p_atom (suc n) (Lt l ∷ s) = (Const l, s)
  p_atom (suc n) (Low x ∷ s) = (Val (x ∷ []), s)
  p_atom (suc n) (Up x ∷ s) = value_or_con x (p_more_path s)
  p_atom (suc n) (Round ∷ s) = p_round n s
  p_atom (suc n) (Square ∷ s) = p_square n s
  p_atom (suc n) s = (Nothing, s)

  pub p_round : ℕ → Marks → PAtom × Marks
  p_round zero s = (Nothing, s)
  p_round (suc n) (Closed ∷ s) = (Nothing, s)
  p_round (suc n) (Bang ∷ s) = (Val (codes "!" ∷ []), behind s)
  p_round (suc n) s = p_close n (p_full n s)

  pub p_close : ℕ → PFull × Marks → PAtom × Marks
  p_close zero x = (Nothing, [])
  p_close (suc n) (e, Comma ∷ s) = let xs = p_more_atoms n (Comma ∷ s) in (Tuple (bare e) xs.0, behind xs.1)
  p_close (suc n) (e, s) = (Paren e, behind s)

  pub p_square : ℕ → Marks → PAtom × Marks
  p_square zero s = (Nothing, s)
  p_square (suc n) (Unsquare ∷ s) = (Items NoAtoms, s)
  p_square (suc n) s = let a = p_atom n s in let xs = p_more_atoms n a.1 in (Items (MoreAtoms a.0 xs.0), behind xs.1)

  pub p_more_atoms : ℕ → Marks → PAtoms × Marks
  p_more_atoms zero s = (NoAtoms, s)
  p_more_atoms (suc n) (Comma ∷ s) = let a = p_atom n s in let xs = p_more_atoms n a.1 in (MoreAtoms a.0 xs.0, xs.1)
  p_more_atoms (suc n) (Semi ∷ s) = let a = p_atom n s in let xs = p_more_atoms n a.1 in (MoreAtoms a.0 xs.0, xs.1)
  p_more_atoms (suc n) s = (NoAtoms, s)

  pub p_arms : ℕ → Marks → PArms × Marks
  p_arms zero s = (NoArms, s)
  p_arms (suc n) (Bar ∷ s) = let p = p_pat n s in let a = p_atom n (behind p.1) in let xs = p_arms n a.1 in (MoreArms p.0 a.0 xs.0, xs.1)
  p_arms (suc n) s = (NoArms, s)

  pub p_full : ℕ → Marks → PFull × Marks
  p_full zero s = (Is (One Nothing), s)
  p_full (suc n) (KLet ∷ s) = p_let n s
  p_full (suc n) (KIf ∷ s) = let a = p_atom n s in let b = p_atom n (behind a.1) in let c = p_atom n (behind b.1) in (If a.0 b.0 c.0, c.1)
  p_full (suc n) (KMatch ∷ s) = let a = p_atom n s in let xs = p_arms n (behind a.1) in (Match a.0 xs.0, xs.1)
  p_full (suc n) (KTry ∷ s) = let a = p_atom n s in let xs = p_arms n (behind a.1) in (Try a.0 xs.0, xs.1)
  p_full (suc n) (KWhile ∷ s) = let a = p_atom n s in let e = p_full n (behind a.1) in (While a.0 e.0, behind e.1)
  p_full (suc n) (KFun ∷ s) = let e = p_fun n s in (Is e.0, e.1)
  p_full (suc n) s = p_after n (p_atom n s)

  pub p_let : ℕ → Marks → PFull × Marks
  p_let zero s = (Is (One Nothing), s)
  p_let (suc n) (KRec ∷ s) = let bs = p_binds n s in let e = p_full n (behind bs.1) in (LetRecIn bs.0 e.0, e.1)
  p_let (suc n) (KModule ∷ s) = let is = p_items n (behind (behind (behind s))) in let e = p_full n (behind (behind is.1)) in (LetMod (first_name s) is.0 e.0, e.1)
  p_let (suc n) (KException ∷ s) = let c = p_cons_of n s in let e = p_full n (behind c.1) in (LetExn c.0.0 c.0.1 e.0, e.1)
  p_let (suc n) s = let p = p_pat n s in let a = p_simple n (behind p.1) in let e = p_full n (behind a.1) in (LetIn p.0 a.0 e.0, e.1)

  pub p_after : ℕ → PAtom × Marks → PFull × Marks
  p_after zero x = (Is (One x.0), x.1)
  p_after (suc n) (a, Semi ∷ s) = let e = p_full n s in (Then a e.0, e.1)
  p_after (suc n) (a, s) = let e = p_rest n (a, s) in (Is e.0, e.1)

  pub p_simple : ℕ → Marks → PSimple × Marks
  p_simple zero s = (One Nothing, s)
  p_simple (suc n) (KFun ∷ s) = p_fun n s
  p_simple (suc n) s = p_rest n (p_atom n s)

  pub p_fun : ℕ → Marks → PSimple × Marks
  p_fun zero s = (One Nothing, s)
  p_fun (suc n) s = let p = p_apat n s in let e = p_full n (behind p.1) in (Fun p.0 e.0, e.1)

  pub p_rest : ℕ → PAtom × Marks → PSimple × Marks
  p_rest zero x = (One x.0, x.1)
  p_rest (suc n) (a, Opr o ∷ s) = let b = p_atom n s in (Oper a o b.0, b.1)
  p_rest (suc n) (a, Equal ∷ s) = let b = p_atom n s in (Oper a (codes "=") b.0, b.1)
  p_rest (suc n) (a, Star ∷ s) = let b = p_atom n s in (Oper a (codes "*") b.0, b.1)
  p_rest (suc n) (a, Pair ∷ s) = let b = p_atom n s in (Oper a (codes "::") b.0, b.1)
  p_rest (suc n) (a, Lt l ∷ s) = let b = p_atom n (Lt l ∷ s) in (call a b.0, b.1)
  p_rest (suc n) (a, Low x ∷ s) = let b = p_atom n (Low x ∷ s) in (call a b.0, b.1)
  p_rest (suc n) (a, Up x ∷ s) = let b = p_atom n (Up x ∷ s) in (call a b.0, b.1)
  p_rest (suc n) (a, Round ∷ s) = let b = p_atom n (Round ∷ s) in (call a b.0, b.1)
  p_rest (suc n) (a, Square ∷ s) = let b = p_atom n (Square ∷ s) in (call a b.0, b.1)
  p_rest (suc n) (a, s) = (One a, s)

  -- behind `let rec`
  pub p_binds : ℕ → Marks → PRBinds × Marks
  p_binds zero s = (NoBinds, s)
  p_binds (suc n) s = let b = p_bind n s in let bs = p_more_binds n b.1 in (MoreBinds b.0 bs.0, bs.1)

  pub p_more_binds : ℕ → Marks → PRBinds × Marks
  p_more_binds zero s = (NoBinds, s)
  p_more_binds (suc n) (KAnd ∷ s) = let b = p_bind n s in let bs = p_more_binds n b.1 in (MoreBinds b.0 bs.0, bs.1)
  p_more_binds (suc n) s = (NoBinds, s)

  pub p_bind : ℕ → Marks → PRBind × Marks
  p_bind zero s = (Plain [] (One Nothing), s)
  p_bind (suc n) (x ∷ Colon ∷ s) = let vs = p_tyvars s in let t = p_type n (behind vs.1) in let e = p_simple n (behind t.1) in (Poly (name_of x) vs.0 t.0 e.0, e.1)
  p_bind (suc n) s = let e = p_simple n (behind (behind s)) in (Plain (first_name s) e.0, e.1)

  pub p_item : ℕ → Marks → PItem × Marks
  p_item zero s = (LetRec NoBinds, s)
  p_item (suc n) (KLet ∷ KRec ∷ s) = let bs = p_binds n s in (LetRec bs.0, bs.1)
  p_item (suc n) (KLet ∷ s) = let p = p_pat n s in let e = p_simple n (behind p.1) in (Let p.0 e.0, e.1)
  p_item (suc n) (KType ∷ s) = let ds = p_definitions n s in (Types ds.0, ds.1)
  p_item (suc n) (KException ∷ x ∷ Equal ∷ s) = let q = p_long s in (ExnAs (name_of x) q.0, q.1)
  p_item (suc n) (KException ∷ s) = let c = p_cons_of n s in (Exn c.0.0 c.0.1, c.1)
  p_item (suc n) (KModule ∷ x ∷ Equal ∷ s) = let m = p_mexp n s in (Module (name_of x) m.0, m.1)
  p_item (suc n) (KModule ∷ x ∷ Colon ∷ s) = let g = p_msig n s in let m = p_mexp n (behind g.1) in (Sealed (name_of x) g.0 m.0, m.1)
  p_item (suc n) (KModule ∷ x ∷ Round ∷ y ∷ Colon ∷ s) = let g = p_msig n s in let m = p_mexp n (behind (behind (behind (behind g.1)))) in (Functor (name_of x) (name_of y) g.0 m.0, m.1)
  p_item (suc n) s = (LetRec NoBinds, s)

  pub p_items : ℕ → Marks → PItems × Marks
  p_items zero s = (NoItems, s)
  p_items (suc n) [] = (NoItems, [])
  p_items (suc n) (KEnd ∷ s) = (NoItems, KEnd ∷ s)
  p_items (suc n) (k ∷ s) = let i = p_item n (k ∷ s) in let is = p_items n i.1 in (MoreItems i.0 is.0, is.1)

  pub p_mexp : ℕ → Marks → PMExp × Marks
  p_mexp zero s = (MAt [], s)
  p_mexp (suc n) (KStruct ∷ s) = let is = p_items n s in (Struct is.0, behind is.1)
  p_mexp (suc n) (Round ∷ s) = let m = p_mexp n s in let g = p_msig n (behind m.1) in (MSeal m.0 g.0, behind g.1)
  p_mexp (suc n) s = p_apply (p_long s)
