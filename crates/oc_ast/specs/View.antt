-- The plain tree of a declared one: the same tree without pointers. One step for each type, and one fold for each.
use Rattle.std.specs.Prelude.{List, [], ◌∷◌, map, Option, Some, None}
use Rattle.oc_ast.specs.declared.types.ATy.{ATy, fold-ATy}
use Rattle.oc_ast.specs.declared.types.OTy.{OTy, fold-OTy}
use Rattle.oc_ast.specs.declared.types.ATy.TheOpen.{ATy-F, OTy-F}
use Rattle.oc_ast.specs.declared.types.TDef.{TDef}
use Rattle.oc_ast.specs.declared.types.TDef.TheVariants as def
use Rattle.oc_ast.specs.declared.pattern.APat.{APat, fold-APat}
use Rattle.oc_ast.specs.declared.pattern.Pat.{Pat, fold-Pat}
use Rattle.oc_ast.specs.declared.pattern.APat.TheOpen.{APat-F, Pat-F}
use Rattle.oc_ast.specs.declared.signature.MSig.{MSig, fold-MSig}
use Rattle.oc_ast.specs.declared.signature.SItem.{SItem, fold-SItem}
use Rattle.oc_ast.specs.declared.signature.MSig.TheOpen.{MSig-F, SItem-F}
use Rattle.oc_ast.specs.declared.expression.Atom.{Atom, fold-Atom}
use Rattle.oc_ast.specs.declared.expression.Full.{Full, fold-Full}
use Rattle.oc_ast.specs.declared.expression.Item.{Item, fold-Item}
use Rattle.oc_ast.specs.declared.expression.MExp.{MExp, fold-MExp}
use Rattle.oc_ast.specs.declared.expression.RBind.{RBind, fold-RBind}
use Rattle.oc_ast.specs.declared.expression.Simple.{Simple, fold-Simple}
use Rattle.oc_ast.specs.declared.rest.Rest.{Rest, fold-Rest}
use Rattle.oc_ast.specs.declared.expression.Atom.TheOpen.{Atom-F, Full-F, Item-F, MExp-F, RBind-F, Rest-F, Simple-F}
use Rattle.oc_ast.specs.declared.expression.Text.{Text}
use Rattle.oc_ast.specs.declared.expression.Text.TheVariants as text
use Rattle.oc_ast.specs.Plain.{Bytes, Long, PATy, PATys, NoATys, MoreATys, POTy, POTys, NoTys, MoreTys, Cons, PTDef, PAPat, PAPats, NoPats, MorePats, PPat, PMSig, PSItem, PSItems, NoSItems, MoreSItems, PAtom, PAtoms, NoAtoms, MoreAtoms, PArms, NoArms, MoreArms, PFull, PItem, PItems, NoItems, MoreItems, PMExp, PRBind, PRBinds, NoBinds, MoreBinds, PSimple}
use Rattle.oc_ast.specs.Plain as p

-- ---- rows

abbrev pub row_of_types : List POTy → POTys
row_of_types [] = NoTys
row_of_types (t ∷ ts) = MoreTys t (row_of_types ts)

abbrev pub row_of_parts : List PATy → PATys
row_of_parts [] = NoATys
row_of_parts (t ∷ ts) = MoreATys t (row_of_parts ts)

abbrev pub row_of_patterns : List PAPat → PAPats
row_of_patterns [] = NoPats
row_of_patterns (x ∷ xs) = MorePats x (row_of_patterns xs)

abbrev pub row_of_sitems : List PSItem → PSItems
row_of_sitems [] = NoSItems
row_of_sitems (x ∷ xs) = MoreSItems x (row_of_sitems xs)

abbrev pub row_of_atoms : List PAtom → PAtoms
row_of_atoms [] = NoAtoms
row_of_atoms (x ∷ xs) = MoreAtoms x (row_of_atoms xs)

abbrev pub row_of_items : List PItem → PItems
row_of_items [] = NoItems
row_of_items (x ∷ xs) = MoreItems x (row_of_items xs)

abbrev pub row_of_binds : List PRBind → PRBinds
row_of_binds [] = NoBinds
row_of_binds (x ∷ xs) = MoreBinds x (row_of_binds xs)

-- ---- types

abbrev pub part_step : ATy-F PATy POTy → PATy
part_step (ATy-F.TVar x) = p.TVar x
part_step (ATy-F.TCon ts q) = p.TCon (row_of_types ts) q
part_step (ATy-F.TParen t) = p.TParen t

abbrev pub type_step : OTy-F PATy POTy → POTy
type_step (OTy-F.TAt t) = p.TAt t
type_step (OTy-F.TArrow t u) = p.TArrow t u
type_step (OTy-F.TTuple t ts) = p.TTuple t (row_of_parts ts)

abbrev pub plain_part : ATy → PATy
plain_part = fold-ATy PATy POTy part_step type_step

abbrev pub plain_type : OTy → POTy
plain_type = fold-OTy PATy POTy part_step type_step

abbrev pub plain_arg : Option ATy → Option PATy
plain_arg None = None
plain_arg (Some t) = Some (plain_part t)

abbrev pub plain_cons : List (Bytes × Option ATy) → Cons
plain_cons [] = []
plain_cons (c ∷ cs) = (c.0, plain_arg c.1) ∷ plain_cons cs

abbrev pub plain_manifest : Option OTy → Option POTy
plain_manifest None = None
plain_manifest (Some t) = Some (plain_type t)

abbrev pub plain_def : TDef → PTDef
plain_def (def.Alias ps n t) = p.Alias ps n (plain_type t)
plain_def (def.Variant ps n t cs) = p.Variant ps n (plain_manifest t) (plain_cons cs)

-- ---- patterns

abbrev pub apat_step : APat-F PAPat PPat → PAPat
apat_step APat-F.Any = p.Any
apat_step (APat-F.PVar x) = p.PVar x
apat_step (APat-F.PConst l) = p.PConst l
apat_step (APat-F.PCon q) = p.PCon q
apat_step APat-F.PUnit = p.PUnit
apat_step (APat-F.PParen x) = p.PParen x
apat_step (APat-F.PTuple x xs) = p.PTuple x (row_of_patterns xs)
apat_step APat-F.PNil = p.PNil
apat_step (APat-F.PCell x) = p.PCell x

abbrev pub pat_step : Pat-F PAPat PPat → PPat
pat_step (Pat-F.PAt x) = p.PAt x
pat_step (Pat-F.PBuild q x) = p.PBuild q x
pat_step (Pat-F.PCons x y) = p.PCons x y
pat_step (Pat-F.PAs x n) = p.PAs x n

abbrev pub plain_apat : APat → PAPat
plain_apat = fold-APat PAPat PPat apat_step pat_step

abbrev pub plain_pat : Pat → PPat
plain_pat = fold-Pat PAPat PPat apat_step pat_step

-- ---- signatures

abbrev pub sig_step : MSig-F PMSig PSItem → PMSig
sig_step (MSig-F.Sig xs) = p.Sig (row_of_sitems xs)

abbrev pub sitem_step : SItem-F PMSig PSItem → PSItem
sitem_step (SItem-F.SVal x t) = p.SVal x (plain_type t)
sitem_step (SItem-F.STypes ds) = p.STypes (map plain_def ds)
sitem_step (SItem-F.SAbs ps n) = p.SAbs ps n
sitem_step (SItem-F.SExn n t) = p.SExn n (plain_arg t)
sitem_step (SItem-F.SModule n s) = p.SModule n s

abbrev pub plain_sig : MSig → PMSig
plain_sig = fold-MSig PMSig PSItem sig_step sitem_step

abbrev pub plain_sitem : SItem → PSItem
plain_sitem = fold-SItem PMSig PSItem sig_step sitem_step

-- ---- expressions, modules and items

abbrev pub row_of_arms : List (Pat × PAtom) → PArms
row_of_arms [] = NoArms
row_of_arms (x ∷ xs) = MoreArms (plain_pat x.0) x.1 (row_of_arms xs)

abbrev pub atom_step : Atom-F PAtom PFull PItem PMExp PRBind PSimple PFull → PAtom
atom_step (Atom-F.Const l) = p.Const l
atom_step (Atom-F.Val q) = p.Val q
atom_step (Atom-F.Con q) = p.Con q
atom_step Atom-F.Unit = p.Nothing
atom_step (Atom-F.Paren e) = p.Paren e
atom_step (Atom-F.Tuple a xs) = p.Tuple a (row_of_atoms xs)
atom_step (Atom-F.Items xs) = p.Items (row_of_atoms xs)

abbrev pub full_step : Full-F PAtom PFull PItem PMExp PRBind PSimple PFull → PFull
full_step (Full-F.Is e) = p.Is e
full_step (Full-F.LetIn x e f) = p.LetIn (plain_pat x) e f
full_step (Full-F.LetRecIn bs e) = p.LetRecIn (row_of_binds bs) e
full_step (Full-F.LetMod n is e) = p.LetMod n (row_of_items is) e
full_step (Full-F.LetExn n t e) = p.LetExn n (plain_arg t) e
full_step (Full-F.If a b c) = p.If a b c
full_step (Full-F.Match a xs) = p.Match a (row_of_arms xs)
full_step (Full-F.Try a xs) = p.Try a (row_of_arms xs)
full_step (Full-F.While a e) = p.While a e
full_step (Full-F.Then a e) = p.Then a e

abbrev pub item_step : Item-F PAtom PFull PItem PMExp PRBind PSimple PFull → PItem
item_step (Item-F.Let x e) = p.Let (plain_pat x) e
item_step (Item-F.LetRec bs) = p.LetRec (row_of_binds bs)
item_step (Item-F.Types ds) = p.Types (map plain_def ds)
item_step (Item-F.Exn n t) = p.Exn n (plain_arg t)
item_step (Item-F.ExnAs n q) = p.ExnAs n q
item_step (Item-F.Module n m) = p.Module n m
item_step (Item-F.Sealed n s m) = p.Sealed n (plain_sig s) m
item_step (Item-F.Functor n x s m) = p.Functor n x (plain_sig s) m

abbrev pub mexp_step : MExp-F PAtom PFull PItem PMExp PRBind PSimple PFull → PMExp
mexp_step (MExp-F.MAt q) = p.MAt q
mexp_step (MExp-F.Struct is) = p.Struct (row_of_items is)
mexp_step (MExp-F.Apply f a) = p.Apply f a
mexp_step (MExp-F.MSeal m s) = p.MSeal m (plain_sig s)

abbrev pub rbind_step : RBind-F PAtom PFull PItem PMExp PRBind PSimple PFull → PRBind
rbind_step (RBind-F.Plain f e) = p.Plain f e
rbind_step (RBind-F.Poly f vs t e) = p.Poly f vs (plain_type t) e

abbrev pub simple_step : Simple-F PAtom PFull PItem PMExp PRBind PSimple PFull → PSimple
simple_step (Simple-F.One a) = p.One a
simple_step (Simple-F.Call a b) = p.Call a b
simple_step (Simple-F.Build q a) = p.Build q a
simple_step (Simple-F.Oper a o b) = p.Oper a o b
simple_step (Simple-F.Fun x e) = p.Fun (plain_apat x) e

-- the rest of a chain is the expression that it holds
abbrev pub rest_step : Rest-F PAtom PFull PItem PMExp PRBind PSimple PFull → PFull
rest_step r = r.full

abbrev pub plain_atom : Atom → PAtom
plain_atom = fold-Atom PAtom PFull PItem PMExp PRBind PSimple PFull atom_step full_step item_step mexp_step rbind_step simple_step rest_step

abbrev pub plain_full : Full → PFull
plain_full = fold-Full PAtom PFull PItem PMExp PRBind PSimple PFull atom_step full_step item_step mexp_step rbind_step simple_step rest_step

abbrev pub plain_item : Item → PItem
plain_item = fold-Item PAtom PFull PItem PMExp PRBind PSimple PFull atom_step full_step item_step mexp_step rbind_step simple_step rest_step

abbrev pub plain_mexp : MExp → PMExp
plain_mexp = fold-MExp PAtom PFull PItem PMExp PRBind PSimple PFull atom_step full_step item_step mexp_step rbind_step simple_step rest_step

abbrev pub plain_rbind : RBind → PRBind
plain_rbind = fold-RBind PAtom PFull PItem PMExp PRBind PSimple PFull atom_step full_step item_step mexp_step rbind_step simple_step rest_step

abbrev pub plain_simple : Simple → PSimple
plain_simple = fold-Simple PAtom PFull PItem PMExp PRBind PSimple PFull atom_step full_step item_step mexp_step rbind_step simple_step rest_step

abbrev pub plain_rest : Rest → PFull
plain_rest = fold-Rest PAtom PFull PItem PMExp PRBind PSimple PFull atom_step full_step item_step mexp_step rbind_step simple_step rest_step

-- a whole text is the row of its items
abbrev pub plain_text : Text → PItems
plain_text (text.All is) = row_of_items (map plain_item is)
