-- What the parts of an expression begin with, and how paths and operators are decoded.
use Rattle.std.proofs.Common.{◌≡◌, ℕ, suc, ◌+◌, inl, inr, Bool, true, false, not, ◌||◌, List, [], ◌∷◌, refl, sym, ap, subst, ◌∙◌}
use Rattle.std.specs.Prelude.{codes, if◌then◌else◌}
use Rattle.oc_ast.specs.declared.literal.OcLit.{OcLit}
use Rattle.oc_ast.specs.Plain.{Bytes, Long, PAtom, Const, Val, Con, Nothing, Paren, Tuple, Items, PAtoms, NoAtoms, MoreAtoms, PArms, NoArms, MoreArms, PFull, Is, LetIn, LetRecIn, LetMod, LetExn, If, Match, Try, While, Then, PItem, Let, LetRec, Types, Exn, ExnAs, Module, Sealed, Functor, PItems, NoItems, MoreItems, PMExp, MAt, Struct, Apply, MSeal, PRBind, Plain, Poly, PRBinds, NoBinds, MoreBinds, PSimple, One, Call, Build, Oper, Fun}
use Rattle.oc_mirror.proofs.Marks.{Mark, Marks, KEnd, KException, KLet, KModule, KType, KVal, Low, Up, Lt, Round, Closed, Square, Unsquare, Comma, Semi, Dot, Equal, Bar, Bang, Star, Pair, Opr}
use Rattle.std.proofs.lemmas.Bool.{eqb-true}
use Rattle.oc_rules.specs.Bytes.{is_small, is_capital, is_part, shaped, heads, same, is_any, is_byte, is_bang}
use Rattle.oc_rules.specs.Allowed as allowed
use Rattle.oc_rules.specs.Allowed.{is_word, is_low, is_cap, ends_in, is_module, is_value, is_constructor, operators, all_tyvars, IsBare, IsFun}
use Rattle.oc_rules.proofs.Tests.{never, both_ways, and_true, same_is}
use Rattle.oc_mirror.proofs.Marks.{nm, oper, m_more_path, m_path, m_atom, m_list_items, m_more_atoms, m_full}
use Rattle.oc_mirror.proofs.Decode.{call, ends_small, value_or_con, p_atom, p_round, p_close, p_square, p_more_atoms, p_arms, p_full, p_after, p_simple, p_rest, behind}
use Rattle.oc_mirror.proofs.Names.{low_mark, cap_mark, small_first, capital_first, Either, either, either_of, Path, ends_path, undotted, more_path_done, constructor_path}
use Rattle.oc_mirror.proofs.ReadsTypes.{s_type}
use Rattle.oc_mirror.proofs.ReadsPatterns.{s_arg, s_defs, s_apat, s_pat, first_up}
use Rattle.oc_mirror.proofs.ReadsSignatures.{item_stop, s_msig}

-- ---- how much fuel a phrase wants

abbrev mutual
  pub s_atom : PAtom → ℕ
  s_atom (Const l) = 9
  s_atom (Val q) = 9
  s_atom (Con q) = 9
  s_atom Nothing = 9
  s_atom (Paren e) = s_full e + 9
  s_atom (Tuple a xs) = s_atom a + s_atoms xs + 9
  s_atom (Items xs) = s_atoms xs + 9

  pub s_atoms : PAtoms → ℕ
  s_atoms NoAtoms = 1
  s_atoms (MoreAtoms a xs) = s_atom a + s_atoms xs + 9

  pub s_arms : PArms → ℕ
  s_arms NoArms = 1
  s_arms (MoreArms p a xs) = s_pat p + s_atom a + s_arms xs + 9

  pub s_full : PFull → ℕ
  s_full (Is e) = s_simple e + 9
  s_full (LetIn p e f) = s_pat p + s_simple e + s_full f + 9
  s_full (LetRecIn bs f) = s_binds bs + s_full f + 9
  s_full (LetMod n is f) = s_items is + s_full f + 9
  s_full (LetExn n t f) = s_arg t + s_full f + 9
  s_full (If a b c) = s_atom a + s_atom b + s_atom c + 9
  s_full (Match a xs) = s_atom a + s_arms xs + 9
  s_full (Try a xs) = s_atom a + s_arms xs + 9
  s_full (While a e) = s_atom a + s_full e + 9
  s_full (Then a e) = s_atom a + s_full e + 9

  pub s_item : PItem → ℕ
  s_item (Let p e) = s_pat p + s_simple e + 9
  s_item (LetRec bs) = s_binds bs + 9
  s_item (Types ds) = s_defs ds + 9
  s_item (Exn n t) = s_arg t + 9
  s_item (ExnAs n q) = 9
  s_item (Module n m) = s_mexp m + 9
  s_item (Sealed n s m) = s_msig s + s_mexp m + 9
  s_item (Functor n x s m) = s_msig s + s_mexp m + 9

  pub s_items : PItems → ℕ
  s_items NoItems = 1
  s_items (MoreItems i is) = s_item i + s_items is + 9

  pub s_mexp : PMExp → ℕ
  s_mexp (MAt q) = 9
  s_mexp (Struct is) = s_items is + 9
  s_mexp (Apply f a) = 9
  s_mexp (MSeal m s) = s_mexp m + s_msig s + 9

  pub s_bind : PRBind → ℕ
  s_bind (Plain f e) = s_simple e + 9
  s_bind (Poly f vs t e) = s_type t + s_simple e + 9

  pub s_binds : PRBinds → ℕ
  s_binds NoBinds = 1
  s_binds (MoreBinds b bs) = s_bind b + s_binds bs + 9

  pub s_simple : PSimple → ℕ
  s_simple (One a) = s_atom a + 9
  s_simple (Call a b) = s_atom a + s_atom b + 9
  s_simple (Build q a) = s_atom a + 18
  s_simple (Oper a o b) = s_atom a + s_atom b + 9
  s_simple (Fun p e) = s_apat p + s_full e + 9

-- ---- what may follow an expression

abbrev pub full_stop : Marks → Bool
full_stop (Dot ∷ s) = false
full_stop (Semi ∷ s) = false
full_stop (Opr o ∷ s) = false
full_stop (Equal ∷ s) = false
full_stop (Star ∷ s) = false
full_stop (Pair ∷ s) = false
full_stop (Lt l ∷ s) = false
full_stop (Low x ∷ s) = false
full_stop (Up x ∷ s) = false
full_stop (Round ∷ s) = false
full_stop (Square ∷ s) = false
full_stop (Bar ∷ s) = false
full_stop s = true

pub full_undotted : (r : Marks) → full_stop r ≡ true → undotted r ≡ true
full_undotted [] h = refl
full_undotted (Dot ∷ s) h = absurd (never h)
full_undotted (k ∷ s) h = refl

pub rest_stop : (n : ℕ) (a : PAtom) (r : Marks) → full_stop r ≡ true → p_rest (suc n) (a, r) ≡ (One a, r)
rest_stop n a [] h = refl
rest_stop n a (Opr o ∷ s) h = absurd (never h)
rest_stop n a (Equal ∷ s) h = absurd (never h)
rest_stop n a (Star ∷ s) h = absurd (never h)
rest_stop n a (Pair ∷ s) h = absurd (never h)
rest_stop n a (Lt l ∷ s) h = absurd (never h)
rest_stop n a (Low x ∷ s) h = absurd (never h)
rest_stop n a (Up x ∷ s) h = absurd (never h)
rest_stop n a (Round ∷ s) h = absurd (never h)
rest_stop n a (Square ∷ s) h = absurd (never h)
rest_stop n a (k ∷ s) h = refl

-- a simple expression goes on as such
abbrev pub Goes : ℕ → PAtom → Marks → Type 0
Goes n a s = p_after (suc n) (a, s) ≡ (Is (p_rest n (a, s)).0, (p_rest n (a, s)).1)

pub after_stop : (n : ℕ) (a : PAtom) (r : Marks) → full_stop r ≡ true → Goes n a r
after_stop n a [] h = refl
after_stop n a (Semi ∷ s) h = absurd (never h)
after_stop n a (k ∷ s) h = refl

pub arms_stop : (n : ℕ) (r : Marks) → full_stop r ≡ true → p_arms (suc n) r ≡ (NoArms, r)
arms_stop n [] h = refl
arms_stop n (Bar ∷ s) h = absurd (never h)
arms_stop n (k ∷ s) h = refl

pub item_full : (r : Marks) → item_stop r ≡ true → full_stop r ≡ true
item_full [] h = refl
item_full (KEnd ∷ s) h = refl
item_full (KLet ∷ s) h = refl
item_full (KType ∷ s) h = refl
item_full (KException ∷ s) h = refl
item_full (KModule ∷ s) h = refl
item_full (KVal ∷ s) h = refl
item_full (k ∷ s) h = absurd (never h)

-- ---- what an atom begins with

pub data StartE : Marks → Type 0 where
  ELt : (l : OcLit) (s : Marks) → StartE (Lt l ∷ s)
  ELow : (x : Bytes) (s : Marks) → StartE (Low x ∷ s)
  EUp : (x : Bytes) (s : Marks) → StartE (Up x ∷ s)
  ERound : (s : Marks) → StartE (Round ∷ s)
  ESquare : (s : Marks) → StartE (Square ∷ s)

pub e_undotted : (s : Marks) → StartE s → undotted s ≡ true
e_undotted _ (ELt l s) = refl
e_undotted _ (ELow x s) = refl
e_undotted _ (EUp x s) = refl
e_undotted _ (ERound s) = refl
e_undotted _ (ESquare s) = refl

pub e_full : (n : ℕ) (s : Marks) → StartE s → p_full (suc n) s ≡ p_after n (p_atom n s)
e_full n _ (ELt l s) = refl
e_full n _ (ELow x s) = refl
e_full n _ (EUp x s) = refl
e_full n _ (ERound s) = refl
e_full n _ (ESquare s) = refl

pub e_simple : (n : ℕ) (s : Marks) → StartE s → p_simple (suc n) s ≡ p_rest n (p_atom n s)
e_simple n _ (ELt l s) = refl
e_simple n _ (ELow x s) = refl
e_simple n _ (EUp x s) = refl
e_simple n _ (ERound s) = refl
e_simple n _ (ESquare s) = refl

pub e_round : (n : ℕ) (s : Marks) → StartE s → p_round (suc n) s ≡ p_close n (p_full n s)
e_round n _ (ELt l s) = refl
e_round n _ (ELow x s) = refl
e_round n _ (EUp x s) = refl
e_round n _ (ERound s) = refl
e_round n _ (ESquare s) = refl

-- the parts of a list, from the first on
abbrev pub listed : ℕ → PAtom × Marks → PAtom × Marks
listed n a = (Items (MoreAtoms a.0 (p_more_atoms n a.1).0), behind (p_more_atoms n a.1).1)

pub e_square : (n : ℕ) (s : Marks) → StartE s → p_square (suc n) s ≡ listed n (p_atom n s)
e_square n _ (ELt l s) = refl
e_square n _ (ELow x s) = refl
e_square n _ (EUp x s) = refl
e_square n _ (ERound s) = refl
e_square n _ (ESquare s) = refl

pub e_call : (n : ℕ) (a : PAtom) (s : Marks) → StartE s → p_rest (suc n) (a, s) ≡ (call a (p_atom n s).0, (p_atom n s).1)
e_call n a _ (ELt l s) = refl
e_call n a _ (ELow x s) = refl
e_call n a _ (EUp x s) = refl
e_call n a _ (ERound s) = refl
e_call n a _ (ESquare s) = refl

pub e_goes : (n : ℕ) (a : PAtom) (s : Marks) → StartE s → Goes n a s
e_goes n a _ (ELt l s) = refl
e_goes n a _ (ELow x s) = refl
e_goes n a _ (EUp x s) = refl
e_goes n a _ (ERound s) = refl
e_goes n a _ (ESquare s) = refl

pub path_start : (q : Long) (r : Marks) → Path q → StartE (m_path q r)
path_start [] r h = absurd h
path_start (n ∷ q) r h = go (either_of n q h)
  where
    go : Either n → StartE (nm n ∷ m_more_path q r)
    go (inl e) = subst (λ (k : Mark). StartE (k ∷ m_more_path q r)) (sym e) (EUp n (m_more_path q r))
    go (inr e) = subst (λ (k : Mark). StartE (k ∷ m_more_path q r)) (sym e) (ELow n (m_more_path q r))

pub value_path : (q : Long) → is_value q ≡ true → is_bang q ≡ false → Path q
value_path q h b = either (ends_in is_low q) (is_bang q) h (ends_path is_low (λ n e. inr (low_mark n e)) q) (λ c. both_ways (is_bang q) c b)

pub value_start : (b : Bool) (q : Long) (r : Marks) → (b ≡ false → Path q) → StartE (if b then Round ∷ Bang ∷ Closed ∷ r else m_path q r)
value_start true q r f = ERound (Bang ∷ Closed ∷ r)
value_start false q r f = path_start q r (f refl)

pub start_atom : (a : PAtom) → allowed.Atom a → (r : Marks) → StartE (m_atom a r)
start_atom (Const l) h r = ELt l r
start_atom (Val q) h r = value_start (is_bang q) q r (value_path q h)
start_atom (Con q) h r = path_start q r (constructor_path q h)
start_atom Nothing h r = ERound (Closed ∷ r)
start_atom (Paren e) h r = ERound (m_full e (Closed ∷ r))
start_atom (Tuple a xs) h r = ERound (m_atom a (m_more_atoms Comma xs (Closed ∷ r)))
start_atom (Items xs) h r = ESquare (m_list_items xs (Unsquare ∷ r))

-- what stands behind an opening parenthesis
pub open_full : (n : ℕ) (e : PFull) → allowed.Full e → (r : Marks) → p_round (suc n) (m_full e r) ≡ p_close n (p_full n (m_full e r))
open_full n (Is (One a)) h r = e_round n (m_atom a r) (start_atom a h r)
open_full n (Is (Call a b)) h r = e_round n (m_atom a (m_atom b r)) (start_atom a h.0 (m_atom b r))
open_full n (Is (Build q b)) h r = e_round n (m_path q (m_atom b r)) (path_start q (m_atom b r) (constructor_path q h.0))
open_full n (Is (Oper a o b)) h r = e_round n (m_atom a (oper o ∷ m_atom b r)) (start_atom a h.0 (oper o ∷ m_atom b r))
open_full n (Is (Fun p e)) h r = refl
open_full n (LetIn p e f) h r = refl
open_full n (LetRecIn NoBinds f) h r = refl
open_full n (LetRecIn (MoreBinds b bs) f) h r = refl
open_full n (LetMod x is f) h r = refl
open_full n (LetExn x t f) h r = refl
open_full n (If a b c) h r = refl
open_full n (Match a xs) h r = refl
open_full n (Try a xs) h r = refl
open_full n (While a e) h r = refl
open_full n (Then a e) h r = e_round n (m_atom a (Semi ∷ m_full e r)) (start_atom a h.0 (Semi ∷ m_full e r))

-- ---- paths of values and of constructors

pub lone_byte : (n : Bytes) → is_byte 33 n ≡ true → n ≡ 33 ∷ []
lone_byte [] e = absurd cc
lone_byte (c ∷ []) e = ap (λ (z : ℕ). z ∷ []) (eqb-true c 33 e)
lone_byte (c ∷ d ∷ s) e = absurd cc

pub bang_is : (q : Long) → is_bang q ≡ true → q ≡ codes "!" ∷ []
bang_is [] e = absurd cc
bang_is (n ∷ []) e = ap (λ (z : Bytes). z ∷ []) (lone_byte n e)
bang_is (n ∷ m ∷ q) e = absurd cc

pub low_small : (n : Bytes) → is_low n ≡ true → heads is_small n ≡ true
low_small n e = small_first n (and_true (shaped is_small is_part n) (not (is_word n)) e).0

pub cap_large : (n : Bytes) → is_cap n ≡ true → heads is_small n ≡ false
cap_large n e = capital_first n (and_true (shaped is_capital is_part n) (not (is_word n)) e).0

pub ends_low : (m : Bytes) (q : Long) → ends_in is_low (m ∷ q) ≡ true → ends_small (m ∷ q) ≡ true
ends_low m [] e = low_small m e
ends_low m (n ∷ q) e = ends_low n q (and_true (is_cap m) (ends_in is_low (n ∷ q)) e).1

pub ends_cap : (m : Bytes) (q : Long) → ends_in is_cap (m ∷ q) ≡ true → ends_small (m ∷ q) ≡ false
ends_cap m [] e = cap_large m e
ends_cap m (n ∷ q) e = ends_cap n q (and_true (is_cap m) (ends_in is_cap (n ∷ q)) e).1

pub low_val : (n : ℕ) (q : Long) (r : Marks) → ends_in is_low q ≡ true → undotted r ≡ true → p_atom (suc n) (m_path q r) ≡ (Val q, r)
low_val n [] r h u = absurd cc
low_val n (x ∷ []) r h u = ap (λ (k : Mark). p_atom (suc n) (k ∷ r)) (low_mark x h)
low_val n (x ∷ m ∷ q) r h u =
    let g = and_true (is_cap x) (ends_in is_low (m ∷ q)) h in
    let p : Path (x ∷ m ∷ q) = ends_path is_low (λ n e. inr (low_mark n e)) (x ∷ m ∷ q) h in
    ap (λ (k : Mark). p_atom (suc n) (k ∷ m_more_path (m ∷ q) r)) (cap_mark x g.0) ∙ (ap (value_or_con x) (more_path_done x (m ∷ q) r p u) ∙ ap (λ (b : Bool). (if b then Val (x ∷ m ∷ q) else Con (x ∷ m ∷ q), r)) (ends_low m q g.1))

pub val_by : (n : ℕ) (b : Bool) (q : Long) (r : Marks) → is_bang q ≡ b → is_value q ≡ true → undotted r ≡ true → p_atom (suc (suc n)) (if b then Round ∷ Bang ∷ Closed ∷ r else m_path q r) ≡ (Val q, r)
val_by n true q r f h u = ap (λ (z : Long). (Val z, r)) (sym (bang_is q f))
val_by n false q r f h u = low_val (suc n) q r (either (ends_in is_low q) (is_bang q) h (λ e. e) (λ c. both_ways (is_bang q) c f)) u

pub con_done : (n : ℕ) (q : Long) (r : Marks) → is_constructor q ≡ true → undotted r ≡ true → p_atom (suc n) (m_path q r) ≡ (Con q, r)
con_done n [] r h u = absurd cc
con_done n (x ∷ []) r h u =
    let f = first_up (x ∷ []) h in
    let same : x ≡ f.0 = cc in
    let up : nm x ≡ Up x = subst (λ (z : Bytes). nm z ≡ Up z) (sym same) f.3 in
    ap (λ (k : Mark). p_atom (suc n) (k ∷ r)) up ∙ ap (value_or_con x) (more_path_done x [] r (inl up) u)
con_done n (x ∷ m ∷ q) r h u =
    let f = first_up (x ∷ m ∷ q) h in
    let same : x ≡ f.0 = cc in
    let up : nm x ≡ Up x = subst (λ (z : Bytes). nm z ≡ Up z) (sym same) f.3 in
    let caps : ends_in is_cap (x ∷ m ∷ q) ≡ true = either (ends_in is_cap (x ∷ m ∷ q)) false h (λ e. e) (λ c. absurd (never c)) in
    ap (λ (k : Mark). p_atom (suc n) (k ∷ m_more_path (m ∷ q) r)) up ∙ (ap (value_or_con x) (more_path_done x (m ∷ q) r (constructor_path (x ∷ m ∷ q) h) u) ∙ ap (λ (b : Bool). (if b then Val (x ∷ m ∷ q) else Con (x ∷ m ∷ q), r)) (ends_cap m q (and_true (is_cap x) (ends_in is_cap (m ∷ q)) caps).1))

-- ---- operators

abbrev pub IsOperator : Bytes → Type 0
IsOperator o = ((n : ℕ) (a : PAtom) (s : Marks) → p_rest (suc n) (a, oper o ∷ s) ≡ (Oper a o (p_atom n s).0, (p_atom n s).1))
    × ((n : ℕ) (a : PAtom) (s : Marks) → Goes n a (oper o ∷ s)) × ((s : Marks) → undotted (oper o ∷ s) ≡ true)

abbrev pub Each : (Bytes → Type 0) → List Bytes → Type 0
Each P [] = Unit {0}
Each P (w ∷ ws) = P w × Each P ws

pub one_of : (P : Bytes → Type 0) (ws : List Bytes) (o : Bytes) → Each P ws → is_any ws o ≡ true → P o
one_of P [] o h e = absurd cc
one_of P (w ∷ ws) o (p, ps) e = go (λ x. one_of P ws o ps x) (same w o) refl
  where
    go : (is_any ws o ≡ true → P o) → (b : Bool) → same w o ≡ b → P o
    go later true y = subst P (same_is w o y) p
    go later false y = later (sym (ap (λ (b : Bool). b || is_any ws o) y) ∙ e)

pub each_operator : Each IsOperator operators
each_operator = (((λ n a s. refl), (λ n a s. refl), (λ s. refl)), (((λ n a s. refl), (λ n a s. refl), (λ s. refl)), (((λ n a s. refl), (λ n a s. refl), (λ s. refl)), (((λ n a s. refl), (λ n a s. refl), (λ s. refl)), (((λ n a s. refl), (λ n a s. refl), (λ s. refl)), (((λ n a s. refl), (λ n a s. refl), (λ s. refl)), (((λ n a s. refl), (λ n a s. refl), (λ s. refl)), (((λ n a s. refl), (λ n a s. refl), (λ s. refl)), (((λ n a s. refl), (λ n a s. refl), (λ s. refl)), (((λ n a s. refl), (λ n a s. refl), (λ s. refl)), (((λ n a s. refl), (λ n a s. refl), (λ s. refl)), (((λ n a s. refl), (λ n a s. refl), (λ s. refl)), (((λ n a s. refl), (λ n a s. refl), (λ s. refl)), (((λ n a s. refl), (λ n a s. refl), (λ s. refl)), (((λ n a s. refl), (λ n a s. refl), (λ s. refl)), (((λ n a s. refl), (λ n a s. refl), (λ s. refl)), (((λ n a s. refl), (λ n a s. refl), (λ s. refl)), (((λ n a s. refl), (λ n a s. refl), (λ s. refl)), (((λ n a s. refl), (λ n a s. refl), (λ s. refl)), (((λ n a s. refl), (λ n a s. refl), (λ s. refl)), (((λ n a s. refl), (λ n a s. refl), (λ s. refl)), tt)))))))))))))))))))))
