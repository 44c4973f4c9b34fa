-- The layout of a tree adds the tree's tokens.
use Rattle.std.proofs.Common.{◌≡◌, ℕ, ◌+◌, true, List, [], ◌∷◌, ◌++◌, Option, Some, None, refl, subst}
use Rattle.std.specs.Prelude.{codes}
use Rattle.std.proofs.lemmas.List.{append-nil}
use Rattle.oc_ast.specs.Plain.{Bytes, PATy, PATys, NoATys, MoreATys, POTy, POTys, NoTys, MoreTys, TVar, TCon, TParen, TAt, TArrow, TTuple, Cons, PTDef, Alias, Variant, PAPat, Any, PVar, PConst, PCon, PUnit, PParen, PTuple, PNil, PCell, PAPats, NoPats, MorePats, PPat, PAt, PBuild, PCons, PAs, PMSig, Sig, PSItem, SVal, STypes, SAbs, SExn, SModule, PSItems, NoSItems, MoreSItems, PAtom, Const, Val, Con, Nothing, Paren, Tuple, Items, PAtoms, NoAtoms, MoreAtoms, PArms, NoArms, MoreArms, PFull, Is, LetIn, LetRecIn, LetMod, LetExn, If, Match, Try, While, Then, PItem, Let, LetRec, Types, Exn, ExnAs, Module, Sealed, Functor, PItems, NoItems, MoreItems, PMExp, MAt, Struct, Apply, MSeal, PRBind, Plain, Poly, PRBinds, NoBinds, MoreBinds, PSimple, One, Call, Build, Oper, Fun}
use Rattle.oc_rules.specs.Token.{is_name, is_tyvar}
use Rattle.oc_rules.specs.Tokens.{Tokens}
use Rattle.oc_rules.specs.Tokens as tokens
use Rattle.oc_rules.specs.Allowed as allowed
use Rattle.oc_rules.specs.Allowed.{all_tyvars}
use Rattle.oc_rules.specs.Lexes.{Lexes, Done}
use Rattle.oc_rules.specs.Reads.{Reads}
use Rattle.oc_rules.proofs.Tests.{and_true}
use Rattle.oc_layout.specs.Sheet.{blank}
use Rattle.oc_layout.specs.Layout.{Ink, ◌▸◌, Layout}
use Rattle.oc_layout.specs.Layout as layout
use Rattle.oc_layout.proofs.Ready.{Fresh, Ready, Closed, Does, cc_of, rr_of, fr_of, rr_then, nothing, here_does, opening, new_line, line_does, body_does}
use Rattle.oc_layout.proofs.Shapes.{◌⊳◌, word, then_word, then_mark, soft_mark, bar, open_round, then_open, close_round, then_close, low_does, cap_does, tyvar_does, lit_does, type_path, module_path, constructor_path, value_path, operator_does}

-- ---- type variables

tyvars_does : (vs : List Bytes) → all_tyvars vs ≡ true → Does Closed Closed (layout.tyvars vs) (tokens.tyvars vs)
tyvars_does [] h = nothing
tyvars_does (v ∷ vs) h = let k = and_true (is_tyvar v) (all_tyvars vs) h in cc_of (tyvar_does v k.0) ⊳ tyvars_does vs k.1

then_comma : Does Closed Closed (layout.mark (codes ",")) (tokens.mark (codes ","))
then_comma = then_mark (codes ",") refl refl

more_params_does : (vs : List Bytes) → all_tyvars vs ≡ true → Does Closed Closed (layout.more_params vs) (tokens.more_params vs)
more_params_does [] h = nothing
more_params_does (v ∷ vs) h = let k = and_true (is_tyvar v) (all_tyvars vs) h in then_comma ⊳ cc_of (tyvar_does v k.0) ⊳ more_params_does vs k.1

params_does : (vs : List Bytes) → all_tyvars vs ≡ true → Does Ready Ready (layout.params vs) (tokens.params vs)
params_does [] h = nothing
params_does (v ∷ []) h = rr_of (tyvar_does v (and_true (is_tyvar v) true h).0)
params_does (v ∷ u ∷ vs) h = let k = and_true (is_tyvar v) (all_tyvars (u ∷ vs)) h in rr_of (open_round ⊳ tyvar_does v k.0 ⊳ more_params_does (u ∷ vs) k.1 ⊳ then_close)

-- ---- types

mutual
  part_does : (t : PATy) → allowed.Part t → Does Ready Closed (layout.part t) (tokens.part t)
  part_does (TVar v) h = tyvar_does v h
  part_does (TCon ts q) (h, k) = args_does ts h ⊳ type_path q k
  part_does (TParen t) h = open_round ⊳ type_does t h ⊳ then_close

  args_does : (ts : POTys) → allowed.Args ts → Does Ready Ready (layout.args ts) (tokens.args ts)
  args_does NoTys h = nothing
  args_does (MoreTys (TAt t) NoTys) h = rr_of (part_does t h)
  args_does (MoreTys (TArrow t u) NoTys) h = absurd h
  args_does (MoreTys (TTuple t ts) NoTys) h = absurd h
  args_does (MoreTys t (MoreTys u us)) (h, k) = rr_of (open_round ⊳ type_does t h ⊳ more_args_does (MoreTys u us) k ⊳ then_close)

  more_args_does : (ts : POTys) → allowed.EachType ts → Does Closed Closed (layout.more_args ts) (tokens.more_args ts)
  more_args_does NoTys h = nothing
  more_args_does (MoreTys t ts) (h, k) = then_comma ⊳ cc_of (type_does t h) ⊳ more_args_does ts k

  type_does : (t : POTy) → allowed.TypeOf t → Does Ready Closed (layout.type_of t) (tokens.type_of t)
  type_does (TAt t) h = part_does t h
  type_does (TArrow t u) (h, k) = part_does t h ⊳ then_mark (codes "->") refl refl ⊳ cc_of (type_does u k)
  type_does (TTuple t NoATys) h = absurd h
  type_does (TTuple t (MoreATys u us)) (h, k) = part_does t h ⊳ factors_does (MoreATys u us) k

  factors_does : (ts : PATys) → allowed.EachPart ts → Does Closed Closed (layout.factors ts) (tokens.factors ts)
  factors_does NoATys h = nothing
  factors_does (MoreATys t ts) (h, k) = then_mark (codes "*") refl refl ⊳ cc_of (part_does t h) ⊳ factors_does ts k

cons_does : (n : Bytes) (t : Option PATy) → allowed.Constructor n t → Does Ready Closed (layout.cons n t) (tokens.cons n t)
cons_does n None h = cap_does n h
cons_does n (Some t) (h, k) = cap_does n h ⊳ then_word (codes "of") refl ⊳ cc_of (part_does t k)

more_cons_does : (cs : Cons) → allowed.EachConstructor cs → Does Closed Closed (layout.more_cons cs) (tokens.more_cons cs)
more_cons_does [] h = nothing
more_cons_does (c ∷ cs) (h, k) = then_mark (codes "|") refl refl ⊳ cc_of (cons_does c.0 c.1 h) ⊳ more_cons_does cs k

manifest_does : (t : Option POTy) → allowed.Manifest t → Does Closed Closed (layout.manifest t) (tokens.manifest t)
manifest_does None h = nothing
manifest_does (Some t) h = then_mark (codes "=") refl refl ⊳ cc_of (type_does t h)

definition_does : (d : PTDef) → allowed.Definition d → Does Ready Closed (layout.definition d) (tokens.definition d)
definition_does (Alias vs n t) (h, k, m) = params_does vs h ⊳ low_does n k ⊳ then_mark (codes "=") refl refl ⊳ cc_of (type_does t m)
definition_does (Variant vs n t []) h = absurd h
definition_does (Variant vs n t (c ∷ cs)) (h, k, m, i) = params_does vs h ⊳ low_does n k ⊳ manifest_does t m ⊳ then_mark (codes "=") refl refl ⊳ cc_of (cons_does c.0 c.1 i.0) ⊳ more_cons_does cs i.1

more_definitions_does : (ds : List PTDef) → allowed.EachDefinition ds → Does Closed Closed (layout.more_definitions ds) (tokens.more_definitions ds)
more_definitions_does [] h = nothing
more_definitions_does (d ∷ ds) (h, k) = then_word (codes "and") refl ⊳ cc_of (definition_does d h) ⊳ more_definitions_does ds k

definitions_does : (ds : List PTDef) → allowed.Definitions ds → Does Ready Closed (layout.definitions ds) (tokens.definitions ds)
definitions_does [] h = absurd h
definitions_does (d ∷ ds) (h, k) = word (codes "type") refl ⊳ cc_of (definition_does d h) ⊳ more_definitions_does ds k

-- ---- patterns

mutual
  apat_does : (p : PAPat) → allowed.APat p → Does Ready Closed (layout.apat p) (tokens.apat p)
  apat_does Any h = soft_mark (codes "_") refl refl refl
  apat_does (PVar x) h = low_does x h
  apat_does (PConst l) h = lit_does l h
  apat_does (PCon q) h = constructor_path q h
  apat_does PUnit h = open_round ⊳ close_round
  apat_does (PParen p) h = open_round ⊳ pat_does p h ⊳ then_close
  apat_does (PTuple p NoPats) h = absurd h
  apat_does (PTuple p (MorePats q qs)) (h, k) = open_round ⊳ apat_does p h ⊳ more_apats_does (MorePats q qs) k ⊳ then_close
  apat_does PNil h = opening (codes "[") refl refl refl refl ⊳ soft_mark (codes "]") refl refl refl
  apat_does (PCell p) h = opening (codes "{") refl refl refl refl ⊳ word (codes "contents") refl ⊳ then_mark (codes "=") refl refl ⊳ cc_of (pat_does p h) ⊳ then_mark (codes "}") refl refl

  more_apats_does : (ps : PAPats) → allowed.EachAPat ps → Does Closed Closed (layout.more_apats ps) (tokens.more_apats ps)
  more_apats_does NoPats h = nothing
  more_apats_does (MorePats p ps) (h, k) = then_comma ⊳ cc_of (apat_does p h) ⊳ more_apats_does ps k

  pat_does : (p : PPat) → allowed.Pat p → Does Ready Closed (layout.pat p) (tokens.pat p)
  pat_does (PAt p) h = apat_does p h
  pat_does (PBuild q p) (h, k) = constructor_path q h ⊳ cc_of (apat_does p k)
  pat_does (PCons p q) (h, k) = apat_does p h ⊳ then_mark (codes "::") refl refl ⊳ cc_of (apat_does q k)
  pat_does (PAs p x) (h, k) = apat_does p h ⊳ then_word (codes "as") refl ⊳ cc_of (low_does x k)

-- ---- signatures

-- a word, items on lines of their own, and `end`
bracketed_does : (w : Bytes) → is_name w ≡ true → (f : ℕ → Ink) (xs : Tokens) → ((n : ℕ) → Does Ready Ready (f n) xs) → Does Ready Closed (layout.bracketed w f) (tokens.name w ++ (xs ++ tokens.name (codes "end")))
bracketed_does w g f xs d = here_does (λ l i. rr_of (word w g) ⊳ d (i + 2) ⊳ rr_then (new_line l i) ⊳ word (codes "end") refl)

mutual
  msig_does : (s : PMSig) → allowed.MSig s → Does Ready Closed (layout.msig s) (tokens.msig s)
  msig_does (Sig is) h = bracketed_does (codes "sig") refl (λ n. layout.sitems n is) (tokens.sitems is) (λ n. sitems_does n is h)

  sitem_does : (i : PSItem) → allowed.SItem i → Does Ready Closed (layout.sitem i) (tokens.sitem i)
  sitem_does (SVal x t) (h, k) = word (codes "val") refl ⊳ cc_of (low_does x h) ⊳ then_mark (codes ":") refl refl ⊳ cc_of (type_does t k)
  sitem_does (STypes ds) h = definitions_does ds h
  sitem_does (SAbs vs n) (h, k) = rr_of (word (codes "type") refl) ⊳ params_does vs h ⊳ low_does n k
  sitem_does (SExn n t) h = word (codes "exception") refl ⊳ cc_of (cons_does n t h)
  sitem_does (SModule n s) (h, k) = word (codes "module") refl ⊳ cc_of (cap_does n h) ⊳ then_mark (codes ":") refl refl ⊳ cc_of (msig_does s k)

  sitems_does : (n : ℕ) (is : PSItems) → allowed.EachSItem is → Does Ready Ready (layout.sitems n is) (tokens.sitems is)
  sitems_does n NoSItems h = nothing
  sitems_does n (MoreSItems i is) (h, k) = rr_then (new_line n n) ⊳ rr_of (sitem_does i h) ⊳ sitems_does n is k

-- ---- expressions, modules and items

mutual
  atom_does : (a : PAtom) → allowed.Atom a → Does Ready Closed (layout.atom a) (tokens.atom a)
  atom_does (Const l) h = lit_does l h
  atom_does (Val q) h = value_path q h
  atom_does (Con q) h = constructor_path q h
  atom_does Nothing h = open_round ⊳ close_round
  atom_does (Paren e) (h, k) = open_round ⊳ full_does e h ⊳ then_close
  atom_does (Tuple a NoAtoms) h = absurd h
  atom_does (Tuple a (MoreAtoms b xs)) (h, k) = open_round ⊳ atom_does a h ⊳ more_atoms_does (codes ",") then_comma (MoreAtoms b xs) k ⊳ then_close
  atom_does (Items xs) h = opening (codes "[") refl refl refl refl ⊳ list_items_does xs h ⊳ soft_mark (codes "]") refl refl refl

  list_items_does : (xs : PAtoms) → allowed.EachAtom xs → Does Ready Ready (layout.list_items xs) (tokens.list_items xs)
  list_items_does NoAtoms h = nothing
  list_items_does (MoreAtoms a xs) (h, k) = rr_of (atom_does a h ⊳ more_atoms_does (codes ";") (then_mark (codes ";") refl refl) xs k)

  more_atoms_does : (m : List ℕ) → Does Closed Closed (layout.mark m) (tokens.mark m) → (xs : PAtoms) → allowed.EachAtom xs → Does Closed Closed (layout.more_atoms m xs) (tokens.more_atoms (tokens.mark m) xs)
  more_atoms_does m d NoAtoms h = nothing
  more_atoms_does m d (MoreAtoms a xs) (h, k) = d ⊳ cc_of (atom_does a h) ⊳ more_atoms_does m d xs k

  arms_does : (n : ℕ) (xs : PArms) → allowed.EachArm xs → Does Closed Closed (layout.arms n xs) (tokens.arms xs)
  arms_does n NoArms h = nothing
  arms_does n (MoreArms p a xs) (h, k, m) = cc_of (line_does n) ⊳ bar ⊳ cc_of (pat_does p h) ⊳ then_mark (codes "->") refl refl ⊳ cc_of (atom_does a k) ⊳ arms_does n xs m

  full_does : (e : PFull) → allowed.Full e → Does Ready Closed (layout.full e) (tokens.full e)
  full_does (Is e) h = simple_does e h
  full_does (LetIn p e f) (h, k, m) = word (codes "let") refl ⊳ cc_of (pat_does p h) ⊳ then_mark (codes "=") refl refl ⊳ cc_of (simple_does e k) ⊳ rr_of (then_word (codes "in") refl) ⊳ rr_then body_does ⊳ full_does f m
  full_does (LetRecIn NoBinds f) h = absurd h
  full_does (LetRecIn (MoreBinds b bs) f) (h, k) = rec_binds_does (MoreBinds b bs) h ⊳ rr_of (then_word (codes "in") refl) ⊳ rr_then body_does ⊳ full_does f k
  full_does (LetMod n is f) (h, k, m) = word (codes "let") refl ⊳ then_word (codes "module") refl ⊳ cc_of (cap_does n h) ⊳ then_mark (codes "=") refl refl ⊳ cc_of (bracketed_does (codes "struct") refl (λ n. layout.items n is) (tokens.items is) (λ n. items_does n is k)) ⊳ rr_of (then_word (codes "in") refl) ⊳ rr_then body_does ⊳ full_does f m
  full_does (LetExn n t f) (h, k) = word (codes "let") refl ⊳ then_word (codes "exception") refl ⊳ cc_of (cons_does n t h) ⊳ rr_of (then_word (codes "in") refl) ⊳ rr_then body_does ⊳ full_does f k
  full_does (If a b c) (h, k, m) = word (codes "if") refl ⊳ cc_of (atom_does a h) ⊳ then_word (codes "then") refl ⊳ cc_of (atom_does b k) ⊳ then_word (codes "else") refl ⊳ cc_of (atom_does c m)
  full_does (Match a NoArms) h = absurd h
  full_does (Match a (MoreArms p b xs)) (h, k) = here_does (λ l i. word (codes "match") refl ⊳ cc_of (atom_does a h) ⊳ then_word (codes "with") refl ⊳ arms_does (l + 2) (MoreArms p b xs) k)
  full_does (Try a NoArms) h = absurd h
  full_does (Try a (MoreArms p b xs)) (h, k) = here_does (λ l i. word (codes "try") refl ⊳ cc_of (atom_does a h) ⊳ then_word (codes "with") refl ⊳ arms_does (l + 2) (MoreArms p b xs) k)
  full_does (While a e) (h, k) = word (codes "while") refl ⊳ cc_of (atom_does a h) ⊳ then_word (codes "do") refl ⊳ cc_of (full_does e k) ⊳ then_word (codes "done") refl
  full_does (Then a e) (h, k) = atom_does a h ⊳ rr_of (then_mark (codes ";") refl refl) ⊳ rr_then body_does ⊳ full_does e k

  item_does : (i : PItem) → allowed.Item i → Does Ready Closed (layout.item i) (tokens.item i)
  item_does (Let p e) (h, k) = word (codes "let") refl ⊳ cc_of (pat_does p h) ⊳ then_mark (codes "=") refl refl ⊳ cc_of (simple_does e k)
  item_does (LetRec NoBinds) h = absurd h
  item_does (LetRec (MoreBinds b bs)) h = rec_binds_does (MoreBinds b bs) h
  item_does (Types ds) h = definitions_does ds h
  item_does (Exn n t) h = word (codes "exception") refl ⊳ cc_of (cons_does n t h)
  item_does (ExnAs n q) (h, k) = word (codes "exception") refl ⊳ cc_of (cap_does n h) ⊳ then_mark (codes "=") refl refl ⊳ cc_of (constructor_path q k)
  item_does (Module n m) (h, k) = word (codes "module") refl ⊳ cc_of (cap_does n h) ⊳ then_mark (codes "=") refl refl ⊳ cc_of (mexp_does m k)
  item_does (Sealed n s m) (h, k, j) = word (codes "module") refl ⊳ cc_of (cap_does n h) ⊳ then_mark (codes ":") refl refl ⊳ cc_of (msig_does s k) ⊳ then_mark (codes "=") refl refl ⊳ cc_of (mexp_does m j)
  item_does (Functor n x s m) (h, k, j, i) = word (codes "module") refl ⊳ cc_of (cap_does n h) ⊳ then_open ⊳ cap_does x k ⊳ then_mark (codes ":") refl refl ⊳ cc_of (msig_does s j) ⊳ then_close ⊳ then_open ⊳ close_round ⊳ then_mark (codes "=") refl refl ⊳ cc_of (mexp_does m i)

  items_does : (n : ℕ) (is : PItems) → allowed.EachItem is → Does Ready Ready (layout.items n is) (tokens.items is)
  items_does n NoItems h = nothing
  items_does n (MoreItems i is) (h, k) = rr_then (new_line n n) ⊳ rr_of (item_does i h) ⊳ items_does n is k

  mexp_does : (m : PMExp) → allowed.MExp m → Does Ready Closed (layout.mexp m) (tokens.mexp m)
  mexp_does (MAt q) h = module_path q h
  mexp_does (Struct is) h = bracketed_does (codes "struct") refl (λ n. layout.items n is) (tokens.items is) (λ n. items_does n is h)
  mexp_does (Apply f a) (h, k) = module_path f h ⊳ then_open ⊳ module_path a k ⊳ then_close ⊳ then_open ⊳ close_round
  mexp_does (MSeal m s) (h, k) = open_round ⊳ mexp_does m h ⊳ then_mark (codes ":") refl refl ⊳ cc_of (msig_does s k) ⊳ then_close

  rec_binds_does : (bs : PRBinds) → allowed.EachBind bs → Does Ready Closed (layout.rec_binds bs) (tokens.rec_binds bs)
  rec_binds_does NoBinds h = word (codes "let") refl ⊳ then_word (codes "rec") refl
  rec_binds_does (MoreBinds b bs) (h, k) = word (codes "let") refl ⊳ then_word (codes "rec") refl ⊳ cc_of (rbind_does b h) ⊳ more_rbinds_does bs k

  more_rbinds_does : (bs : PRBinds) → allowed.EachBind bs → Does Closed Closed (layout.more_rbinds bs) (tokens.more_rbinds bs)
  more_rbinds_does NoBinds h = nothing
  more_rbinds_does (MoreBinds b bs) (h, k) = then_word (codes "and") refl ⊳ cc_of (rbind_does b h) ⊳ more_rbinds_does bs k

  rbind_does : (b : PRBind) → allowed.Bind b → Does Ready Closed (layout.rbind b) (tokens.rbind b)
  rbind_does (Plain f e) (h, k, m) = low_does f h ⊳ then_mark (codes "=") refl refl ⊳ cc_of (simple_does e k)
  rbind_does (Poly f [] t e) h = absurd h
  rbind_does (Poly f (v ∷ vs) t e) (h, k, m, i, j) = low_does f h ⊳ then_mark (codes ":") refl refl ⊳ tyvars_does (v ∷ vs) k ⊳ then_mark (codes ".") refl refl ⊳ cc_of (type_does t m) ⊳ then_mark (codes "=") refl refl ⊳ cc_of (simple_does e i)

  simple_does : (e : PSimple) → allowed.Simple e → Does Ready Closed (layout.simple e) (tokens.simple e)
  simple_does (One a) h = atom_does a h
  simple_does (Call a b) (h, k, m) = atom_does a h ⊳ cc_of (atom_does b m)
  simple_does (Build q a) (h, k) = constructor_path q h ⊳ cc_of (atom_does a k)
  simple_does (Oper a o b) (h, k, m) = atom_does a h ⊳ operator_does o k ⊳ cc_of (atom_does b m)
  simple_does (Fun p e) (h, k) = word (codes "fun") refl ⊳ cc_of (apat_does p h) ⊳ then_mark (codes "->") refl refl ⊳ cc_of (full_does e k)

-- ---- a text

lines_does : (is : PItems) → allowed.EachItem is → Does Fresh Fresh (layout.lines is) (tokens.items is)
lines_does NoItems h = nothing
lines_does (MoreItems i is) (h, k) = fr_of (rr_of (item_does i h)) ⊳ new_line 0 0 ⊳ lines_does is k

-- the layout of a text before bytes that are tokens
pub layout_before : (text : PItems) → allowed.Allowed text → (rest : List ℕ) (us : Tokens) → Lexes rest us → Lexes (Layout text ++ rest) (tokens.items text ++ us)
layout_before text h = ((lines_does text h).run blank [] (refl, λ rest us l. l)).1

-- the layout of a text reads as the text
pub layout_reads : (text : PItems) → allowed.Allowed text → Reads (Layout text) text
layout_reads text h =
    let whole : Lexes (Layout text ++ []) (tokens.items text ++ []) = layout_before text h [] [] (Done [] [] refl refl) in
    let bytes : Lexes (Layout text) (tokens.items text ++ []) = subst (λ (z : List ℕ). Lexes z (tokens.items text ++ [])) (append-nil (Layout text)) whole in
    (h, subst (λ (z : Tokens). Lexes (Layout text) z) (append-nil (tokens.items text)) bytes)
