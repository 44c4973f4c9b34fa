-- What exact readers promise of a whole text.
use Rattle.std.proofs.Common.{◌≡◌, ℕ, ◌+◌, Bool, true, false, List, [], ◌∷◌, ◌++◌, Option, Some, None, Ok, Err, refl, sym, ap, subst, ◌∙◌, append_assoc, arith}
use Rattle.std.proofs.lemmas.List.{append-nil}
use Rattle.readers.specs.declared.code.Code.{Code}
use Rattle.readers.specs.declared.code.Code.TheVariants.{Grammar, Depth, FixityClash}
use Rattle.readers.specs.Reader.{first, Reader}
use Rattle.readers.specs.Language.{Viable}
use Rattle.readers.specs.Room.{Room, Under, Eased, at_height, Alike}
use Rattle.readers.specs.Exact.{Found, Reads, Refuses}
use Rattle.readers.specs.WholeText.{RefusedAt}
use Rattle.readers.proofs.Outcome.{under_self, viable_or, ok_is}
use Rattle.readers.proofs.Monotone.{Mono}

-- a list has at most one tree
pub one_tree : {K T : Type 0} (D : T → List K → Type 0) (stop : T → Option K → Bool) (p : Reader K T) → ((t : T) → stop t None ≡ true) → Reads D stop p → (x y : T) (w : List K) → D x w → D y w → x ≡ y
one_tree D stop p ends P x y w d e =
    let same = ok_is (x, []) (y, []) (sym (P.complete x w [] d (ends x)) ∙ P.complete y w [] e (ends y)) in
    ap (λ (z : _ × List _). z.0) same

refused_here : {K T : Type 0} (D : Room → T → List K → Type 0) (stop : T → Option K → Bool) (p : Room → Reader K T) → ((t : T) → stop t None ≡ true) → ((k : Room) → Reads (D k) stop (p k))
    → (h : Room) (s : List K) (e : Code × List K) (g : Refuses D p h s e) (k : Room) (c : K) → Alike e.0 h k → first e.1 ≡ Some c → Viable (D k) (g.read ++ c ∷ []) → ⊥
refused_here D stop p ends P h s e g k c al is v =
    let full : p k (((g.read ++ c ∷ []) ++ v.more) ++ []) ≡ Ok (v.tree, []) = (P k).complete v.tree ((g.read ++ c ∷ []) ++ v.more) [] v.derives (ends v.tree) in
    let regrouped : ((g.read ++ c ∷ []) ++ v.more) ++ [] ≡ g.read ++ (c ∷ v.more) = append-nil ((g.read ++ c ∷ []) ++ v.more) ∙ append_assoc g.read (c ∷ []) v.more in
    let none : p k (g.read ++ (c ∷ v.more)) ≡ Err (e.0, c ∷ v.more) = g.local k (c ∷ v.more) al (sym is) in
    let both : Ok (v.tree, []) ≡ Err (e.0, c ∷ v.more) = sym full ∙ ap (p k) regrouped ∙ none in
    cc

alike_self : (c : Code) (h : Room) → Alike c h h
alike_self Grammar h = under_self h
alike_self Depth h = refl
alike_self FixityClash h = (omega arith, refl)

-- some room above both
pub over : Room → Room → Room
over h k = at_height (h.height + k.height) true

pub under_over_left : (h k : Room) → Under h (over h k)
unfolding over
under_over_left h k = (omega arith, λ e. refl)

pub under_over_right : (h k : Room) → Under k (over h k)
unfolding over
under_over_right h k = (omega arith, λ e. refl)

pub refused_at : {K T : Type 0} (D : Room → T → List K → Type 0) (stop : T → Option K → Bool) (p : Room → Reader K T) → ((t : T) → stop t None ≡ true) → ((k : Room) → Reads (D k) stop (p k)) → Mono D
    → (h : ℕ) → Viable (D (at_height h false)) [] → (s : List K) (e : Code × List K) → Refuses D p (at_height h false) s e → RefusedAt D h s e.0 e.1
refused_at D stop p ends P mono h some s e g =
    let here : Room = at_height h false in
    record {
      read = g.read;
      parts = g.parts;
      viable = viable_or (D here) g.read some g.viable;
      least = λ c is v. refused_here D stop p ends P here s e g here c (alike_self e.0 here) is v;
      grammar = λ gr k c is v.
          let m : Room = over here k in
          refused_here D stop p ends P here s e g m c (subst (λ (x : Code). Alike x here m) (sym gr) (under_over_left here k)) is
          (record { tree = v.tree; more = v.more; derives = mono k m v.tree ((g.read ++ c ∷ []) ++ v.more) (under_over_right here k) v.derives });
      depth = λ dp.
          let d = g.deep (λ (no : e.0 ≡ Grammar). absurd cc) in
          let same = level d.room e.0 dp d.eased in
          (d.room.height, d.token, d.is, subst (λ (r : Room). Viable (D r) (g.read ++ d.token ∷ [])) same d.viable);
      clash = λ cl c is k v.
          let m : Room = at_height (h + k) false in
          refused_here D stop p ends P here s e g m c (subst (λ (x : Code). Alike x here m) (sym cl) (omega arith, refl)) is
          (record { tree = v.tree; more = v.more; derives = mono (at_height k false) m v.tree ((g.read ++ c ∷ []) ++ v.more) (omega arith, λ e. e) v.derives });
      clashing = λ cl.
          let d = g.deep (λ (no : e.0 ≡ Grammar). absurd cc) in
          let v = d.viable in
          (d.room.height, d.token, d.is, record { tree = v.tree; more = v.more; derives = mono d.room (at_height d.room.height true) v.tree ((g.read ++ d.token ∷ []) ++ v.more) (omega arith, λ e. refl) v.derives });
    }
  where
    level : (k : Room) (c : Code) → c ≡ Depth → Eased c (at_height h false) k → k ≡ at_height k.height false
    level k Grammar dp a = absurd a
    level k Depth dp a = ap (at_height k.height) a.1
    level k FixityClash dp a = absurd cc

-- what was read is the longest: nothing of any height goes on with the next token
pub longest : {K T : Type 0} (D : Room → T → List K → Type 0) (stop : T → Option K → Bool) (p : Room → Reader K T) → ((t : T) → stop t None ≡ true) → ((k : Room) → Reads (D k) stop (p k)) → Mono D
    → (h : Room) (s : List K) (z : T × List K) (f : Found (D h) stop s z) (k : Room) (c : K) → first z.1 ≡ Some c → Viable (D k) (f.read ++ c ∷ []) → ⊥
longest {K} {T} D stop p ends P mono h s z f k c is v =
    let m : Room = over h k in
    let higher = mono k m v.tree ((f.read ++ c ∷ []) ++ v.more) (under_over_right h k) v.derives in
    let full : p m (((f.read ++ c ∷ []) ++ v.more) ++ []) ≡ Ok (v.tree, []) = (P m).complete v.tree ((f.read ++ c ∷ []) ++ v.more) [] higher (ends v.tree) in
    let regrouped : ((f.read ++ c ∷ []) ++ v.more) ++ [] ≡ f.read ++ (c ∷ v.more) = append-nil ((f.read ++ c ∷ []) ++ v.more) ∙ append_assoc f.read (c ∷ []) v.more in
    let shorter : p m (f.read ++ (c ∷ v.more)) ≡ Ok (z.0, c ∷ v.more) = (P m).complete z.0 f.read (c ∷ v.more) (mono h m z.0 f.read (under_over_left h k) f.derives) (ap (stop z.0) (sym is) ∙ f.stops) in
    let two = ok_is (v.tree, []) (z.0, c ∷ v.more) (sym full ∙ ap (p m) regrouped ∙ shorter) in
    let ends : [] ≡ c ∷ v.more = ap (λ (y : T × List K). y.1) two in
    cc

-- a text that goes on behind its longest phrase is refused there
pub left_over : {K T : Type 0} (D : Room → T → List K → Type 0) (stop : T → Option K → Bool) (p : Room → Reader K T) → ((t : T) → stop t None ≡ true) → ((k : Room) → Reads (D k) stop (p k)) → Mono D
    → (h : ℕ) (s : List K) (z : T × List K) → p (at_height h false) s ≡ Ok z → RefusedAt D h s Grammar z.1
left_over D stop p ends P mono h s z e =
    let here : Room = at_height h false in
    let f = (P here).sound s z e in
    record {
      read = f.read;
      parts = f.parts;
      viable = record { tree = z.0; more = []; derives = subst (D here z.0) (sym (append-nil f.read)) f.derives };
      least = λ c is v. longest D stop p ends P mono here s z f here c is v;
      grammar = λ gr k c is v. longest D stop p ends P mono here s z f k c is v;
      depth = λ dp. absurd cc;
      clash = λ cl. absurd cc;
      clashing = λ cl. absurd cc;
    }
