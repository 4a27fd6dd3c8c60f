-- The links that a flow needs.
use Rattle.std.proofs.Common.{◌≡◌, ◌≢◌, ℕ, ◌/◌, ◌<◌, Bool, true, false, eqb, List, [], ◌∷◌, ◌++◌, length, set, replicate, Contains, Option, Some, None, refl, sym, ap, ◌∙◌, subst, inl, inr, arith, get_or-set_same, get_or-set_other, length-set}
use Rattle.std.specs.Prelude.{IfSome}
use Rattle.std.specs.List.{AllByRecursion, list_all}
use Rattle.std.proofs.lemmas.Bool.{cases_Bool, cases_eq, eq-eqb, eqb-true, false≢true}
use Rattle.std.proofs.lemmas.List.{length-replicate}
use Rattle.std.proofs.lemmas.List.Elements.{All-from_recursion, recursion_from_All, Contains-append_cases, Contains-append_left, Contains-append_right}
use Rattle.std.proofs.lemmas.Option.{same_Some, cond_some, none-some}
use Rattle.sw_topo.specs.Wiring.{out}
use Rattle.sw_config.specs.Entries.{FlowEntry, Declaration}
use Rattle.sw_flow.specs.declared.place.Place.{Place}
use Rattle.sw_flow.specs.Followers.{followers_of}
use Rattle.sw_flow.specs.Places.{ends_of, IsPlaceList}
use Rattle.sw_flow.proofs.Listed.{Contains-cases, Contains-head}
use Rattle.sw_margin.specs.Losses.{AreOnLink, NeedsLink}
use Rattle.sw_margin.specs.Losses.NeedsLink.{AtStart, OnTheWay}
use Rattle.sw_graph.specs.Rounds.{is_marked}
use Rattle.sw_margin.specs.Needs.{AreMarked, AreNeeded, link_after, only_link}
use Rattle.sw_margin.proofs.Ways.{channels_paired, follower_within}
use Rattle.sw_topo.proofs.Lists.{none_in}
use Rattle.sw_graph.proofs.Backs.{none_marked}

-- ---- the only link

abbrev is_on : ℕ → Place → Bool
is_on link p = eqb (p.channel / 2) link

all_on : (link : ℕ) (ps : List Place) → list_all (is_on link) ps ≡ true → AllByRecursion (λ (q : Place). q.channel / 2 ≡ link) ps
all_on link [] h = tt
all_on link (p ∷ ps) h =
    elim (cases_Bool (is_on link p)) [
      | inl here ↦ (eqb-true (p.channel / 2) link here, all_on link ps (rw here at h))
      | inr not ↦ absurd (false≢true (rw not at h))
    ]

on_all : (link : ℕ) (ps : List Place) → AllByRecursion (λ (q : Place). q.channel / 2 ≡ link) ps → list_all (is_on link) ps ≡ true
on_all link [] h = refl
on_all link (p ∷ ps) h = rw (eq-eqb (p.channel / 2) link h.0) (on_all link ps h.1)

-- there are some, and all are on that link
pub record IsOnly (link : ℕ) (ps : List Place) : Type 0 where
  pub some : ps ≢ []
  pub on : AreOnLink link ps

pub only_from : (link : ℕ) (ps : List Place) → only_link ps ≡ Some link → IsOnly link ps
only_from link [] h = absurd (none-some link h)
only_from link (p ∷ ps) h =
    let both = cond_some (list_all (is_on (p.channel / 2)) ps) (p.channel / 2) link h in
    let P : ℕ → Type 0 = λ l. AllByRecursion (λ (q : Place). q.channel / 2 ≡ l) ps in
    record {
      some = λ e. absurd cc;
      on = All-from_recursion (λ (q : Place). q.channel / 2 ≡ link) (p ∷ ps) (both.1, subst P both.1 (all_on (p.channel / 2) ps both.0));
    }

pub only_to : (link : ℕ) (ps : List Place) → ps ≢ [] → AreOnLink link ps → only_link ps ≡ Some link
only_to link [] some on = absurd (some refl)
only_to link (p ∷ ps) some on =
    let all = recursion_from_All (λ (q : Place). q.channel / 2 ≡ link) (p ∷ ps) on in
    let rest : list_all (is_on (p.channel / 2)) ps ≡ true = ap (λ l. list_all (is_on l) ps) all.0 ∙ on_all link ps all.1 in
    rw rest (ap Some all.0)

-- ---- marks

abbrev IsSet : List Bool → ℕ → Type 0
IsSet marks link = is_marked marks link ≡ true

module _ (d : Declaration) (f : FlowEntry) where
  pub link_within : (p : Place) (o : Option ℕ) → o ≡ link_after d f p → IfSome o (λ l. l < length d.links)
  link_within p None e = tt
  link_within p (Some l) e = at (followers_of d f p.channel p.deleted) (λ q h. follower_within d f p.channel p.deleted q h) (sym e)
    where
      at : (ps : List Place) → ((q : Place) → Contains ps q → q.channel < length (ends_of d)) → only_link ps ≡ Some l → l < length d.links
      at [] inside h = absurd (none-some l h)
      at (q ∷ ps) inside h =
          let both = cond_some (list_all (is_on (q.channel / 2)) ps) (q.channel / 2) l h in
          let low = inside q (Contains-head q ps) in
          let even = channels_paired d in
          let half = both.1 in
          omega arith

  pub marked_none : (marks : List Bool) → AreMarked d f [] marks marks
  marked_none marks = record { size = refl; each = λ l. (λ h. inl h, λ h. elim h [ inl old ↦ old | inr new ↦ absurd (none_in new.place new.listed) ]) }

  pub marked_one : (p : Place) (marks : List Bool) (link at : ℕ) → Some link ≡ link_after d f p → link < length marks → at ≡ link → AreMarked d f (p ∷ []) marks (set marks at true)
  marked_one p marks link at is lt here = record {
    size = length-set marks at true;
    each = λ l. elim (cases_eq l link) [
      | inl same ↦ (
        λ h. inr (record { place = p; listed = Contains-head p []; alone = sym is ∙ ap Some (sym same) }),
        λ h. ap (λ k. is_marked (set marks k true) l) (here ∙ sym same) ∙ get_or-set_same marks l true false (omega arith),
      )
      | inr other ↦
          let e : is_marked (set marks at true) l ≡ is_marked marks l = get_or-set_other marks at l true false (λ same. other (same ∙ here)) in (
            λ h. inl (sym e ∙ h),
            λ h. elim h [
              | inl old ↦ e ∙ old
              | inr new ↦ elim (Contains-cases p new.place [] new.listed) [
                | inl same ↦ absurd (other (same_Some l link (sym new.alone ∙ ap (link_after d f) (sym same) ∙ sym is)))
                | inr none ↦ absurd (none_in new.place none)
              ]
            ],
          )
    ];
  }

  pub marked_kept : (p : Place) (marks : List Bool) → None ≡ link_after d f p → AreMarked d f (p ∷ []) marks marks
  marked_kept p marks is = record {
    size = refl;
    each = λ l. (
      λ h. inl h,
      λ h. elim h [
        | inl old ↦ old
        | inr new ↦ elim (Contains-cases p new.place [] new.listed) [
          | inl same ↦ absurd (none-some l (is ∙ ap (link_after d f) same ∙ new.alone))
          | inr none ↦ absurd (none_in new.place none)
        ]
      ],
    );
  }

  pub marked_more : (ps : List Place) (q : Place) (marks marks1 marks2 : List Bool) → AreMarked d f ps marks marks1 → AreMarked d f (q ∷ []) marks1 marks2 → AreMarked d f (ps ++ q ∷ []) marks marks2
  marked_more ps q marks marks1 marks2 a b = record {
    size = b.size ∙ a.size;
    each = λ l. (
      λ h. elim ((b.each l).0 h) [
        | inl before ↦ elim ((a.each l).0 before) [
          | inl old ↦ inl old
          | inr new ↦ inr (record { place = new.place; listed = Contains-append_left ps (q ∷ []) new.place new.listed; alone = new.alone })
        ]
        | inr new ↦ inr (record { place = new.place; listed = Contains-append_right ps (q ∷ []) new.place new.listed; alone = new.alone })
      ],
      λ h. elim h [
        | inl old ↦ (b.each l).1 (inl ((a.each l).1 (inl old)))
        | inr new ↦ elim (Contains-append_cases ps (q ∷ []) new.place new.listed) [
          | inl before ↦ (b.each l).1 (inl ((a.each l).1 (inr (record { place = new.place; listed = before; alone = new.alone }))))
          | inr last ↦ (b.each l).1 (inr (record { place = new.place; listed = last; alone = new.alone }))
        ]
      ],
    );
  }

  -- ---- all that are needed

  pub all_needed : (places : List Place) (n start at : ℕ) (marks : List Bool) → n ≡ length d.links → out (ends_of d) f.from ≡ Some start → start < length (ends_of d) → at ≡ start / 2 → IsPlaceList d f places
      → AreMarked d f places (set (replicate n false) at true) marks → AreNeeded d f marks
  all_needed places n start at marks long starts inside here list m =
      let none : List Bool = replicate n false in
      let even = channels_paired d in
      let wide : length none ≡ n = length-replicate {A = Bool} n false in
      let lt : at < length none = omega arith in
      record {
        size = m.size ∙ length-set none at true ∙ wide ∙ long;
        each = λ l. (
          λ h. elim ((m.each l).0 h) [
            | inl first ↦ elim (cases_eq l at) [
              | inl same ↦ AtStart start starts (sym here ∙ sym same)
              | inr other ↦ absurd (false≢true (sym (none_marked n l) ∙ sym (get_or-set_other none at l true false other) ∙ first))
            ]
            | inr new ↦
                let p = new.place in
                let only = only_from l (followers_of d f p.channel p.deleted) new.alone in
                OnTheWay p ((list.member p).0 new.listed) only.some only.on
          ],
          needed l lt,
        );
      }
    where
      needed : (l : ℕ) → at < length (replicate n false) → NeedsLink d f l → is_marked marks l ≡ true
      needed l lt (AtStart c out_c half) =
          let same : start ≡ c = same_Some start c (sym starts ∙ out_c) in
          let is : l ≡ at = sym half ∙ sym (here ∙ ap (λ k. k / 2) same) in
          (m.each l).1 (inl (ap (λ k. is_marked (set (replicate n false) at true) k) is ∙ get_or-set_same (replicate n false) at true false lt))
      needed l lt (OnTheWay p place some on) = (m.each l).1 (inr (record { place = p; listed = (list.member p).1 place; alone = only_to l (followers_of d f p.channel p.deleted) some on }))
