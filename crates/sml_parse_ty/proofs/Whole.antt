-- What is promised of the type at a place.
use Rattle.std.proofs.Common.{◌≡◌, ℕ, ◌-◌, ◌≤◌, Bool, true, false, List, [], ◌∷◌, ◌++◌, length, drop, Option, Ok, Err, refl, sym, ap, ◌∙◌, arith}
use Rattle.tl_text.specs.declared.fault.Fault.{Fault}
use Rattle.readers.specs.declared.code.Code.{Code as Cause}
use Rattle.readers.specs.declared.fault.ReadError.{ReadError}
use Rattle.readers.specs.declared.fault.ReadError.TheVariants as errors
use Rattle.readers.specs.Reader.{first}
use Rattle.readers.specs.Language.{Viable}
use Rattle.readers.specs.Room.{Room, at_height}
use Rattle.readers.specs.Exact.{Found, Reads, Refuses}
use Rattle.readers.specs.Given.{Fails}
use Rattle.readers.proofs.Bundle.{Known, mono}
use Rattle.readers.proofs.Monotone.{Mono}
use Rattle.readers.proofs.Outcome.{ok_is, not_both}
use Rattle.readers.proofs.WholeText.{refused_at, longest}
use Rattle.sml_lex.specs.declared.token.Token.{Token}
use Rattle.sml_ast.specs.declared.ty.Ty.{Ty}
use Rattle.sml_grammar.specs.Types.{Tx, TyR}
use Rattle.sml_grammar.specs.ReadTypes.{ty_read, ty_in}
use Rattle.sml_grammar.proofs.Types.{ty_exact}
use Rattle.sml_scan.proofs.Places.{behind, count_is, next_is}
use Rattle.sml_scan.specs.Faults.{RefusesAs, fault_at, FaultOf}
use Rattle.sml_parse_ty.specs.Promise.{Derives, IsType, ends, GivesType, Refusal}

-- ---- types are read exactly

abbrev stop : Tx → Option Token → Bool
stop t o = ends o

reads : (k : Room) → Reads (TyR k) stop (ty_in k)
reads k = (ty_exact Known.Readings k.height).part.reads k (omega arith)

refuses : (h : Room) (s : List Token) (e : Cause × List Token) → ty_in h s ≡ Err e → Refuses TyR ty_in h s e
refuses h s e i = (ty_exact Known.Refusals h.height).part.refuses h (omega arith) (omega arith) s e i

higher : Mono TyR
higher h k t w u d = mono (ty_exact Known.Readings 0).part h k t w tt u d

some : (h : ℕ) → 1 ≤ h → Viable (TyR (at_height h false)) []
some h le = (ty_exact Known.Readings 0).part.some (at_height h false) tt le

-- ---- the clauses

pub found_type : (room : ℕ) (tokens : List Token) (at : ℕ) (ty : Ty) (h : ℕ) (rest : List Token) → at ≤ length tokens → ty_read room (drop at tokens) ≡ Ok ((ty, h), rest)
    → IsType room tokens at ty (length tokens - length rest)
found_type room tokens at ty h rest le e =
    let here : Room = at_height room false in
    let f : Found (TyR here) stop (drop at tokens) ((ty, h), rest) = (reads here).sound (drop at tokens) ((ty, h), rest) e in
    let left : drop (length tokens - length rest) tokens ≡ rest = behind tokens f.read rest at f.parts in
    record {
      it = record { height = h; read = f.read; parts = f.parts ∙ ap (λ (z : List Token). f.read ++ z) (sym left); counts = count_is tokens f.read rest at le f.parts; derives = f.derives };
      longest = λ k c is v. longest TyR stop ty_in (λ t. refl) reads higher here (drop at tokens) ((ty, h), rest) f (at_height k false) c (ap first (sym left) ∙ is) v;
    }

read_type : (room : ℕ) (tokens : List Token) (at : ℕ) (t : Ty) (next : ℕ) (d : Derives room tokens at t next) → ends (first (drop next tokens)) ≡ true → ty_read room (drop at tokens) ≡ Ok ((t, d.height), drop next tokens)
read_type room tokens at t next d st = ap (ty_read room) d.parts ∙ (reads (at_height room false)).complete (t, d.height) d.read (drop next tokens) d.derives st

pub only_type : (room : ℕ) (tokens : List Token) (at : ℕ) (ty : Ty) (h : ℕ) (rest : List Token) → at ≤ length tokens → ty_read room (drop at tokens) ≡ Ok ((ty, h), rest)
    → (t : Ty) (next : ℕ) → Derives room tokens at t next → ends (first (drop next tokens)) ≡ true → (let x : Ty × ℕ = (ty, length tokens - length rest) in x) ≡ (t, next)
only_type room tokens at ty h rest le e t next d st =
    let same = ok_is ((ty, h), rest) ((t, d.height), drop next tokens) (sym e ∙ read_type room tokens at t next d st) in
    let trees : ty ≡ t = ap (λ (z : Tx × List Token). z.0.0) same in
    let left : rest ≡ drop next tokens = ap (λ (z : Tx × List Token). z.1) same in
    let counts : length tokens - length rest ≡ next = next_is tokens d.read rest at next le left d.parts d.counts in
    let pair : Ty → ℕ → Ty × ℕ = λ a b. (a, b) in
    ap (λ (a : Ty). pair a (length tokens - length rest)) trees ∙ ap (pair t) counts

pub fault_only : (e : ReadError Token) (f : Fault) (room : ℕ) (tokens : List Token) (at : ℕ) → FaultOf e f → Fails e (ty_read room (drop at tokens))
    → (t : Ty) (next : ℕ) → Derives room tokens at t next → ends (first (drop next tokens)) ≡ true → GivesType (Err f) t next
fault_only errors.NoMemory f room tokens at i r t next d st = rw i tt
fault_only (errors.Refused c rest) f room tokens at i r t next d st = not_both ((t, d.height), drop next tokens) (c, rest.now) (sym (read_type room tokens at t next d st) ∙ r)

pub fault_right : (e : ReadError Token) (f : Fault) (room : ℕ) (tokens : List Token) (at : ℕ) → 1 ≤ room → FaultOf e f → Fails e (ty_read room (drop at tokens))
    → RefusesAs {T = Ty × ℕ} (Refusal room tokens at) (Err f)
fault_right errors.NoMemory f room tokens at le i r = rw i tt
fault_right (errors.Refused c rest) f room tokens at le i r = rw i (go rest.now r)
  where
    go : (s : List Token) → ty_read room (drop at tokens) ≡ Err (c, s) → RefusesAs {T = Ty × ℕ} (Refusal room tokens at) (Err (fault_at c s))
    go [] r = tt
    go (t ∷ s) r = record {
      cause = c;
      next = t;
      rest = s;
      refused = refused_at TyR stop ty_in (λ t. refl) reads higher room (some room le) (drop at tokens) (c, t ∷ s) (refuses (at_height room false) (drop at tokens) (c, t ∷ s) r);
      stands = refl;
      why = refl;
    }
