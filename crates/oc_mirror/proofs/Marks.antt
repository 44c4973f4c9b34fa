-- The tokens of a tree once more, with a constructor for each word and mark of the grammar.
use Rattle.std.proofs.Common.{ℕ, List, [], ◌∷◌, Option, Some, None}
use Rattle.std.specs.Prelude.{nat_eq, codes, if◌then◌else◌}
use Rattle.tl_cases.specs.Rows.{value_at}
use Rattle.tl_cases.specs.Words.{oc_rows}
use Rattle.oc_ast.specs.declared.literal.OcLit.{OcLit}
use Rattle.oc_ast.specs.Plain.{Bytes, Long, PATy, PATys, NoATys, MoreATys, POTy, POTys, NoTys, MoreTys, TVar, TCon, TParen, TAt, TArrow, TTuple, Cons, PTDef, Alias, Variant, PAPat, Any, PVar, PConst, PCon, PUnit, PParen, PTuple, PNil, PCell, PAPats, NoPats, MorePats, PPat, PAt, PBuild, PCons, PAs, PMSig, Sig, PSItem, SVal, STypes, SAbs, SExn, SModule, PSItems, NoSItems, MoreSItems, PAtom, Const, Val, Con, Nothing, Paren, Tuple, Items, PAtoms, NoAtoms, MoreAtoms, PArms, NoArms, MoreArms, PFull, Is, LetIn, LetRecIn, LetMod, LetExn, If, Match, Try, While, Then, PItem, Let, LetRec, Types, Exn, ExnAs, Module, Sealed, Functor, PItems, NoItems, MoreItems, PMExp, MAt, Struct, Apply, MSeal, PRBind, Plain, Poly, PRBinds, NoBinds, MoreBinds, PSimple, One, Call, Build, Oper, Fun}
use Rattle.oc_rules.specs.Bytes.{is_letter, is_small, heads, same, is_bang}
use Rattle.oc_rules.specs.Token.{Token, Name, Tyvar, Sign, Lit}

pub data Mark : Type 0 where
  KAnd : Mark
  KAs : Mark
  KDo : Mark
  KDone : Mark
  KElse : Mark
  KEnd : Mark
  KException : Mark
  KFun : Mark
  KIf : Mark
  KIn : Mark
  KLet : Mark
  KMatch : Mark
  KModule : Mark
  KOf : Mark
  KRec : Mark
  KSig : Mark
  KStruct : Mark
  KThen : Mark
  KTry : Mark
  KType : Mark
  KVal : Mark
  KWhile : Mark
  KWith : Mark
  -- a name with a small letter first, another name, a type variable, a literal
  Low : Bytes → Mark
  Up : Bytes → Mark
  Tv : Bytes → Mark
  Lt : OcLit → Mark
  Round : Mark
  Closed : Mark
  Square : Mark
  Unsquare : Mark
  Curly : Mark
  Uncurly : Mark
  Comma : Mark
  Semi : Mark
  Dot : Mark
  Colon : Mark
  Equal : Mark
  Arrow : Mark
  Bar : Mark
  Under : Mark
  Bang : Mark
  Star : Mark
  Pair : Mark
  -- an operator but `=`, `*` and `::`
  Opr : Bytes → Mark

abbrev pub Marks : Type 0
Marks = List Mark

-- ---- the mark of a token

abbrev pub of_word : ℕ → Bytes → Mark
of_word k n = if nat_eq k 0 then KAnd else (if nat_eq k 1 then KAs else (if nat_eq k 7 then KDo else (if nat_eq k 8 then KDone else (if nat_eq k 11 then KElse else (if nat_eq k 12 then KEnd else (if nat_eq k 13 then KException else (if nat_eq k 17 then KFun else (if nat_eq k 20 then KIf else (if nat_eq k 21 then KIn else (if nat_eq k 27 then KLet else (if nat_eq k 32 then KMatch else (if nat_eq k 35 then KModule else (if nat_eq k 40 then KOf else (if nat_eq k 44 then KRec else (if nat_eq k 45 then KSig else (if nat_eq k 46 then KStruct else (if nat_eq k 47 then KThen else (if nat_eq k 50 then KTry else (if nat_eq k 51 then KType else (if nat_eq k 52 then KVal else (if nat_eq k 55 then KWhile else (if nat_eq k 56 then KWith else (if nat_eq k 15 then Up n else (if nat_eq k 49 then Up n else Opr n))))))))))))))))))))))))

abbrev pub of_name : Option ℕ → Bytes → Mark
of_name None n = if heads is_small n then Low n else Up n
of_name (Some k) n = of_word k n

abbrev pub of_sign : List ℕ → Mark
of_sign s = if same s (codes "(") then Round else (if same s (codes ")") then Closed else (if same s (codes "[") then Square else (if same s (codes "]") then Unsquare else (if same s (codes "{") then Curly else (if same s (codes "}") then Uncurly else (if same s (codes ",") then Comma else (if same s (codes ";") then Semi else (if same s (codes ".") then Dot else (if same s (codes ":") then Colon else (if same s (codes "=") then Equal else (if same s (codes "->") then Arrow else (if same s (codes "|") then Bar else (if same s (codes "_") then Under else (if same s (codes "!") then Bang else (if same s (codes "*") then Star else (if same s (codes "::") then Pair else (Opr s)))))))))))))))))

abbrev pub tok : Token → Mark
tok (Name n) = of_name (value_at n oc_rows) n
tok (Tyvar v) = Tv v
tok (Sign s) = of_sign s
tok (Lit l) = Lt l

abbrev pub nm : Bytes → Mark
nm n = tok (Name n)

-- ---- the marks of a tree, before others

abbrev pub m_more_path : Long → Marks → Marks
m_more_path [] r = r
m_more_path (n ∷ q) r = Dot ∷ nm n ∷ m_more_path q r

abbrev pub m_path : Long → Marks → Marks
m_path [] r = r
m_path (n ∷ q) r = nm n ∷ m_more_path q r

abbrev pub m_value : Long → Marks → Marks
m_value q r = if is_bang q then Round ∷ Bang ∷ Closed ∷ r else m_path q r

abbrev pub oper : Bytes → Mark
oper o = if heads is_letter o then nm o else of_sign o

abbrev pub m_tyvars : List Bytes → Marks → Marks
m_tyvars [] r = r
m_tyvars (v ∷ vs) r = Tv v ∷ m_tyvars vs r

abbrev pub m_more_params : List Bytes → Marks → Marks
m_more_params [] r = r
m_more_params (v ∷ vs) r = Comma ∷ Tv v ∷ m_more_params vs r

abbrev pub m_params : List Bytes → Marks → Marks
m_params [] r = r
m_params (v ∷ []) r = Tv v ∷ r
m_params (v ∷ u ∷ vs) r = Round ∷ Tv v ∷ m_more_params (u ∷ vs) (Closed ∷ r)

abbrev mutual
  pub m_part : PATy → Marks → Marks
  m_part (TVar v) r = Tv v ∷ r
  m_part (TCon ts q) r = m_args ts (m_path q r)
  m_part (TParen t) r = Round ∷ m_type t (Closed ∷ r)

  pub m_args : POTys → Marks → Marks
  m_args NoTys r = r
  m_args (MoreTys t NoTys) r = m_type t r
  m_args (MoreTys t (MoreTys u us)) r = Round ∷ m_type t (m_more_args (MoreTys u us) (Closed ∷ r))

  pub m_more_args : POTys → Marks → Marks
  m_more_args NoTys r = r
  m_more_args (MoreTys t ts) r = Comma ∷ m_type t (m_more_args ts r)

  pub m_type : POTy → Marks → Marks
  m_type (TAt t) r = m_part t r
  m_type (TArrow t u) r = m_part t (Arrow ∷ m_type u r)
  m_type (TTuple t ts) r = m_part t (m_factors ts r)

  pub m_factors : PATys → Marks → Marks
  m_factors NoATys r = r
  m_factors (MoreATys t ts) r = Star ∷ m_part t (m_factors ts r)

abbrev pub m_cons : Bytes → Option PATy → Marks → Marks
m_cons n None r = nm n ∷ r
m_cons n (Some t) r = nm n ∷ KOf ∷ m_part t r

abbrev pub m_more_cons : Cons → Marks → Marks
m_more_cons [] r = r
m_more_cons (c ∷ cs) r = Bar ∷ m_cons c.0 c.1 (m_more_cons cs r)

abbrev pub m_variants : Cons → Marks → Marks
m_variants [] r = r
m_variants (c ∷ cs) r = m_cons c.0 c.1 (m_more_cons cs r)

abbrev pub m_manifest : Option POTy → Marks → Marks
m_manifest None r = r
m_manifest (Some t) r = Equal ∷ m_type t r

abbrev pub m_definition : PTDef → Marks → Marks
m_definition (Alias vs n t) r = m_params vs (nm n ∷ Equal ∷ m_type t r)
m_definition (Variant vs n t cs) r = m_params vs (nm n ∷ m_manifest t (Equal ∷ m_variants cs r))

abbrev pub m_more_definitions : List PTDef → Marks → Marks
m_more_definitions [] r = r
m_more_definitions (d ∷ ds) r = KAnd ∷ m_definition d (m_more_definitions ds r)

abbrev pub m_definitions : List PTDef → Marks → Marks
m_definitions [] r = KType ∷ r
m_definitions (d ∷ ds) r = KType ∷ m_definition d (m_more_definitions ds r)

abbrev mutual
  pub m_apat : PAPat → Marks → Marks
  m_apat Any r = Under ∷ r
  m_apat (PVar x) r = nm x ∷ r
  m_apat (PConst l) r = Lt l ∷ r
  m_apat (PCon q) r = m_path q r
  m_apat PUnit r = Round ∷ Closed ∷ r
  m_apat (PParen p) r = Round ∷ m_pat p (Closed ∷ r)
  m_apat (PTuple p ps) r = Round ∷ m_apat p (m_more_apats ps (Closed ∷ r))
  m_apat PNil r = Square ∷ Unsquare ∷ r
  m_apat (PCell p) r = Curly ∷ Low (codes "contents") ∷ Equal ∷ m_pat p (Uncurly ∷ r)

  pub m_more_apats : PAPats → Marks → Marks
  m_more_apats NoPats r = r
  m_more_apats (MorePats p ps) r = Comma ∷ m_apat p (m_more_apats ps r)

  pub m_pat : PPat → Marks → Marks
  m_pat (PAt p) r = m_apat p r
  m_pat (PBuild q p) r = m_path q (m_apat p r)
  m_pat (PCons p q) r = m_apat p (Pair ∷ m_apat q r)
  m_pat (PAs p x) r = m_apat p (KAs ∷ nm x ∷ r)

abbrev mutual
  pub m_msig : PMSig → Marks → Marks
  m_msig (Sig is) r = KSig ∷ m_sitems is (KEnd ∷ r)

  pub m_sitem : PSItem → Marks → Marks
  m_sitem (SVal x t) r = KVal ∷ nm x ∷ Colon ∷ m_type t r
  m_sitem (STypes ds) r = m_definitions ds r
  m_sitem (SAbs vs n) r = KType ∷ m_params vs (nm n ∷ r)
  m_sitem (SExn n t) r = KException ∷ m_cons n t r
  m_sitem (SModule n s) r = KModule ∷ nm n ∷ Colon ∷ m_msig s r

  pub m_sitems : PSItems → Marks → Marks
  m_sitems NoSItems r = r
  m_sitems (MoreSItems i is) r = m_sitem i (m_sitems is r)

abbrev mutual
  pub m_atom : PAtom → Marks → Marks
  m_atom (Const l) r = Lt l ∷ r
  m_atom (Val q) r = m_value q r
  m_atom (Con q) r = m_path q r
  m_atom Nothing r = Round ∷ Closed ∷ r
  m_atom (Paren e) r = Round ∷ m_full e (Closed ∷ r)
  m_atom (Tuple a xs) r = Round ∷ m_atom a (m_more_atoms Comma xs (Closed ∷ r))
  m_atom (Items xs) r = Square ∷ m_list_items xs (Unsquare ∷ r)

  pub m_list_items : PAtoms → Marks → Marks
  m_list_items NoAtoms r = r
  m_list_items (MoreAtoms a xs) r = m_atom a (m_more_atoms Semi xs r)

  pub m_more_atoms : Mark → PAtoms → Marks → Marks
  m_more_atoms m NoAtoms r = r
  m_more_atoms m (MoreAtoms a xs) r = m ∷ m_atom a (m_more_atoms m xs r)

  pub m_arms : PArms → Marks → Marks
  m_arms NoArms r = r
  m_arms (MoreArms p a xs) r = Bar ∷ m_pat p (Arrow ∷ m_atom a (m_arms xs r))

  pub m_full : PFull → Marks → Marks
  m_full (Is e) r = m_simple e r
  m_full (LetIn p e f) r = KLet ∷ m_pat p (Equal ∷ m_simple e (KIn ∷ m_full f r))
  m_full (LetRecIn bs f) r = m_rec_binds bs (KIn ∷ m_full f r)
  m_full (LetMod n is f) r = KLet ∷ KModule ∷ nm n ∷ Equal ∷ KStruct ∷ m_items is (KEnd ∷ KIn ∷ m_full f r)
  m_full (LetExn n t f) r = KLet ∷ KException ∷ m_cons n t (KIn ∷ m_full f r)
  m_full (If a b c) r = KIf ∷ m_atom a (KThen ∷ m_atom b (KElse ∷ m_atom c r))
  m_full (Match a xs) r = KMatch ∷ m_atom a (KWith ∷ m_arms xs r)
  m_full (Try a xs) r = KTry ∷ m_atom a (KWith ∷ m_arms xs r)
  m_full (While a e) r = KWhile ∷ m_atom a (KDo ∷ m_full e (KDone ∷ r))
  m_full (Then a e) r = m_atom a (Semi ∷ m_full e r)

  pub m_item : PItem → Marks → Marks
  m_item (Let p e) r = KLet ∷ m_pat p (Equal ∷ m_simple e r)
  m_item (LetRec bs) r = m_rec_binds bs r
  m_item (Types ds) r = m_definitions ds r
  m_item (Exn n t) r = KException ∷ m_cons n t r
  m_item (ExnAs n q) r = KException ∷ nm n ∷ Equal ∷ m_path q r
  m_item (Module n m) r = KModule ∷ nm n ∷ Equal ∷ m_mexp m r
  m_item (Sealed n s m) r = KModule ∷ nm n ∷ Colon ∷ m_msig s (Equal ∷ m_mexp m r)
  m_item (Functor n x s m) r = KModule ∷ nm n ∷ Round ∷ nm x ∷ Colon ∷ m_msig s (Closed ∷ Round ∷ Closed ∷ Equal ∷ m_mexp m r)

  pub m_items : PItems → Marks → Marks
  m_items NoItems r = r
  m_items (MoreItems i is) r = m_item i (m_items is r)

  pub m_mexp : PMExp → Marks → Marks
  m_mexp (MAt q) r = m_path q r
  m_mexp (Struct is) r = KStruct ∷ m_items is (KEnd ∷ r)
  m_mexp (Apply f a) r = m_path f (Round ∷ m_path a (Closed ∷ Round ∷ Closed ∷ r))
  m_mexp (MSeal m s) r = Round ∷ m_mexp m (Colon ∷ m_msig s (Closed ∷ r))

  pub m_rec_binds : PRBinds → Marks → Marks
  m_rec_binds NoBinds r = KLet ∷ KRec ∷ r
  m_rec_binds (MoreBinds b bs) r = KLet ∷ KRec ∷ m_rbind b (m_more_rbinds bs r)

  pub m_more_rbinds : PRBinds → Marks → Marks
  m_more_rbinds NoBinds r = r
  m_more_rbinds (MoreBinds b bs) r = KAnd ∷ m_rbind b (m_more_rbinds bs r)

  pub m_rbind : PRBind → Marks → Marks
  m_rbind (Plain f e) r = nm f ∷ Equal ∷ m_simple e r
  m_rbind (Poly f vs t e) r = nm f ∷ Colon ∷ m_tyvars vs (Dot ∷ m_type t (Equal ∷ m_simple e r))

  pub m_simple : PSimple → Marks → Marks
  m_simple (One a) r = m_atom a r
  m_simple (Call a b) r = m_atom a (m_atom b r)
  m_simple (Build q a) r = m_path q (m_atom a r)
  m_simple (Oper a o b) r = m_atom a (oper o ∷ m_atom b r)
  m_simple (Fun p e) r = KFun ∷ m_apat p (Arrow ∷ m_full e r)
