-- What waits where replies go back over the links of a way.
use Rattle.std.proofs.Common.{◌≡◌, ℕ, ◌⊎◌, List, [], ◌∷◌, ◌++◌, Contains, sym, ap, ◌∙◌, subst, inl, inr}
use Rattle.sw_topo.specs.Wiring.{partner}
use Rattle.sw_topo.proofs.Ends.{partner_back}
use Rattle.sw_topo.proofs.Lists.{none_in}
use Rattle.sw_flow.proofs.Listed.{Contains-cases, Contains-head, Contains-later}
use Rattle.sw_margin.specs.Bends.{waits_back}
use Rattle.sw_margin.specs.Laws.{WaitsGoBack}
use Rattle.sw_margin.specs.Ways.{WaitsOnTheWayBack}

-- ---- of those of the rest

one_more : (c x y : ℕ) (cs : List ℕ) → WaitsOnTheWayBack cs x y → WaitsOnTheWayBack (c ∷ cs) x y
one_more c x y cs (inl comes) = inl (record { before = c ∷ comes.before; after = comes.after; listed = ap (λ (l : List ℕ). c ∷ l) comes.listed })
one_more c x y cs (inr (ends, is)) = inr (record { before = c ∷ ends.before; listed = ap (λ (l : List ℕ). c ∷ l) ends.listed }, is)

-- ---- each of them waits so

last_wait : (c x y : ℕ) → ◌≡◌ {A = ℕ × ℕ} (c, partner c) (x, y) → WaitsOnTheWayBack (c ∷ []) x y
last_wait c x y same =
    let one : c ≡ x = ap (λ (w : ℕ × ℕ). w.0) same in
    let two : partner c ≡ y = ap (λ (w : ℕ × ℕ). w.1) same in
    inr (record { before = []; listed = ap (λ (z : ℕ). z ∷ []) one }, sym two ∙ ap partner one)

first_wait : (c e x y : ℕ) (cs : List ℕ) → ◌≡◌ {A = ℕ × ℕ} (partner e, partner c) (x, y) → WaitsOnTheWayBack (c ∷ e ∷ cs) x y
first_wait c e x y cs same =
    let one : e ≡ partner x = sym (partner_back e) ∙ ap (λ (w : ℕ × ℕ). partner w.0) same in
    let two : c ≡ partner y = sym (partner_back c) ∙ ap (λ (w : ℕ × ℕ). partner w.1) same in
    inl (record { before = []; after = cs; listed = λ t. two t ∷ one t ∷ cs })

waits_so : (cs : List ℕ) (x y : ℕ) → Contains (waits_back cs) (x, y) → WaitsOnTheWayBack cs x y
waits_so [] x y h = absurd (none_in (x, y) h)
waits_so (c ∷ []) x y h = elim (Contains-cases (c, partner c) (x, y) [] h) [ inl same ↦ last_wait c x y same | inr later ↦ absurd (none_in (x, y) later) ]
waits_so (c ∷ e ∷ cs) x y h = by (Contains-cases (partner e, partner c) (x, y) (waits_back (e ∷ cs)) h) (waits_so (e ∷ cs) x y)
  where
    by : (◌≡◌ {A = ℕ × ℕ} (partner e, partner c) (x, y)) ⊎ Contains (waits_back (e ∷ cs)) (x, y) → (Contains (waits_back (e ∷ cs)) (x, y) → WaitsOnTheWayBack (e ∷ cs) x y)
        → WaitsOnTheWayBack (c ∷ e ∷ cs) x y
    by (inl same) rest = first_wait c e x y cs same
    by (inr later) rest = one_more c x y (e ∷ cs) (rest later)

-- ---- what waits so is one of them

next_waits : (before after : List ℕ) (c e : ℕ) → Contains (waits_back (before ++ c ∷ e ∷ after)) (partner e, partner c)
next_waits [] after c e = Contains-head (partner e, partner c) (waits_back (e ∷ after))
next_waits (b ∷ []) after c e = Contains-later (partner c, partner b) (partner e, partner c) (waits_back (c ∷ e ∷ after)) (next_waits [] after c e)
next_waits (b ∷ a ∷ before) after c e =
    Contains-later (partner a, partner b) (partner e, partner c) (waits_back (a ∷ (before ++ c ∷ e ∷ after))) (next_waits (a ∷ before) after c e)

last_waits : (before : List ℕ) (c : ℕ) → Contains (waits_back (before ++ c ∷ [])) (c, partner c)
last_waits [] c = Contains-head (c, partner c) []
last_waits (b ∷ []) c = Contains-later (partner c, partner b) (c, partner c) (waits_back (c ∷ [])) (last_waits [] c)
last_waits (b ∷ a ∷ before) c = Contains-later (partner a, partner b) (c, partner c) (waits_back (a ∷ (before ++ c ∷ []))) (last_waits (a ∷ before) c)

one_of_them : (cs : List ℕ) (x y : ℕ) → WaitsOnTheWayBack cs x y → Contains (waits_back cs) (x, y)
one_of_them cs x y (inl comes) =
    subst (Contains (waits_back cs)) (λ t. (partner_back x t, partner_back y t))
    (subst (λ (l : List ℕ). Contains (waits_back l) (partner (partner x), partner (partner y))) (sym comes.listed) (next_waits comes.before comes.after (partner y) (partner x)))
one_of_them cs x y (inr (ends, is)) =
    subst (λ (z : ℕ). Contains (waits_back cs) (x, z)) (sym is) (subst (λ (l : List ℕ). Contains (waits_back l) (x, partner x)) (sym ends.listed) (last_waits ends.before x))

pub waits_go_back : WaitsGoBack
waits_go_back cs x y = (waits_so cs x y, one_of_them cs x y)
