-- Tables of the constructors that a row of items declares, by stamps.
use Rattle.std.proofs.Common.{◌≡◌, ℕ, ◌≤◌, List, Option, Some, None, Bool, true, false, if◌then◌else◌, nat_lt, ap, ◌∙◌, arith}
use Rattle.std.proofs.lemmas.Bool.{le-ltb, lt-ltb}
use Rattle.oc_ast.specs.Plain.{Bytes}
use Rattle.run_types.specs.Basic.{Basic}
use Rattle.oc_sound.specs.Rows.{ClosedTable, Includes, Table}
use Rattle.oc_sound.specs.Words.{Among, Variants}
use Rattle.oc_sound.specs.Served.{Closed}
use Rattle.run_types.specs.Types as run
use Rattle.run_types.specs.Types.{World}

-- P holds in each world that has some table of these types; where no types are declared it holds in each world
abbrev pub Tabled : Variants → Bool → ℕ → ℕ → (World → Type 0) → Type 0
Tabled vs true c e P = (T : Table) × ClosedTable vs T × ((w : World) → Basic w → Closed vs w → Includes c e T w → P w)
Tabled vs false c e P = (w : World) → Basic w → Closed vs w → P w

pub no_table : (vs : Variants) (b : Bool) (c e : ℕ) (P : World → Type 0) → ((w : World) → Basic w → Closed vs w → P w) → Tabled vs b c e P
no_table vs true c e P h = ((λ s n. None), (λ s n args q. absurd (cc q)), λ w q o i. h w q o)
no_table vs false c e P h = h

pub map_table : (vs : Variants) (b : Bool) (c e : ℕ) (P Q : World → Type 0) → ((w : World) → P w → Q w) → Tabled vs b c e P → Tabled vs b c e Q
map_table vs true c e P Q f t = (t.0, t.1, λ w q o i. f w (t.2 w q o i))
map_table vs false c e P Q f t = λ w q o. f w (t w q o)

-- the constructors of one type
abbrev pub Family : Variants → (Bytes → Option run.Tys) → Bytes → Type 0
Family vs t n = (v : List Bytes) × Among v vs × Among n v × ((m : Bytes) (us : run.Tys) → t m ≡ Some us → Among m v)

pub family_if : (vs : Variants) (b : Bool) (t u : Bytes → Option run.Tys) (n : Bytes) (args : run.Tys) → (t n ≡ Some args → Family vs t n) → (u n ≡ Some args → Family vs u n) → (if b then t n else u n) ≡ Some args → Family vs (λ m. if b then t m else u m) n
family_if vs true t u n args f g h = f h
family_if vs false t u n args f g h = g h

-- ---- one table after another

abbrev join_at : ℕ → Table → Table → Table
join_at m T U = λ s n. if nat_lt s m then T s n else U s n

first_included : (c m e : ℕ) (T U : Table) (w : World) → m ≤ e → Includes c e (join_at m T U) w → Includes c m T w
first_included c m e T U w l i = λ s n args h k q. i s n args h (omega (arith, k, l)) (ap (λ b. if b then T s n else U s n) (lt-ltb s m k) ∙ q)

second_included : (c m e : ℕ) (T U : Table) (w : World) → c ≤ m → Includes c e (join_at m T U) w → Includes m e U w
second_included c m e T U w l i = λ s n args h k q. i s n args (omega (arith, h, l)) k (ap (λ b. if b then T s n else U s n) (le-ltb s m h) ∙ q)

closed_join : (vs : Variants) (m : ℕ) (T U : Table) → ClosedTable vs T → ClosedTable vs U → ClosedTable vs (join_at m T U)
closed_join vs m T U f g = λ s n args h. family_if vs (nat_lt s m) (T s) (U s) n args (f s n args) (g s n args) h

pub both_tables : (vs : Variants) (b : Bool) (c m e : ℕ) (P Q R : World → Type 0) → c ≤ m → m ≤ e → ((w : World) → P w → Q w → R w) → Tabled vs b c m P → Tabled vs b m e Q → Tabled vs b c e R
both_tables vs true c m e P Q R l k f t u =
    (join_at m t.0 u.0, closed_join vs m t.0 u.0 t.1 u.1, λ w q o i. f w (t.2 w q o (first_included c m e t.0 u.0 w k i)) (u.2 w q o (second_included c m e t.0 u.0 w l i)))
both_tables vs false c m e P Q R l k f t u = λ w q o. f w (t w q o) (u w q o)
