-- The sets of ports that are named, step by step.
use Rattle.std.proofs.Common.{◌≡◌, ℕ, zero, suc, ◌+◌, ◌<◌, ◌≤◌, ◌↔◌, ◌⊎◌, inl, inr, List, [], ◌∷◌, ◌++◌, length, get_or, set, replicate, Option, Some, None, refl, sym, ap, ◌∙◌, subst, arith, get_or-set_same, get_or-set_other, length-set, All}
use Rattle.std.specs.Prelude.{IsBitSet, bit_or, slice_get, slice_index, Vec}
use Rattle.std.specs.List.{AllZip}
use Rattle.std.specs.declared.alloc.Global.{Global}
use Rattle.std.proofs.lemmas.Bool.{cases_eq, cases_lt, lt-ltb, le-ltb}
use Rattle.std.proofs.lemmas.List.{get_or-replicate, length-replicate, get_or_past}
use Rattle.std.proofs.lemmas.List.Elements.{Contains-append_left, Contains-append_right, Contains-append_cases, Contains-get_or}
use Rattle.std.proofs.lemmas.Option.{same_Some}
use Rattle.sw_topo.specs.declared.place.PlaceEnd.{PlaceEnd}
use Rattle.sw_topo.specs.declared.place.PlaceEnd.TheVariants.{Node, Switch}
use Rattle.sw_topo.proofs.PortBits.{or_members}
use Rattle.sw_config.specs.Entries.{FlowEntry, Declaration, all_flows}
use Rattle.sw_flow.specs.declared.place.Place.{Place}
use Rattle.sw_flow.specs.Places.{ends_of, end_of, IsPlace, IsPlaceList}
use Rattle.sw_flow.proofs.Listed.{Contains-head, Contains-cases}
use Rattle.sw_flow.proofs.Stepping.{places_are_in}
use Rattle.sw_cycle.specs.Named.{AreAdded, AreNamed, IsNamedAt, NamesPort, ports_at_end, ports_named}
use Rattle.sw_topo.proofs.Lists.{none_in}

pub none_set : (p : ℕ) → IsBitSet 0 p → ⊥
none_set p set = set refl

-- the set of ports has those that are named
pub ports_are_named : (d : Declaration) (f : FlowEntry) (c k p : ℕ) → IsBitSet (ports_named d f c k) p ↔ NamesPort d f c k p
unfolding ports_named
ports_are_named d f c k p = (into (end_of d c) refl, back)
  where
    into : (o : Option PlaceEnd) → end_of d c ≡ o → IsBitSet (ports_at_end d f k o) p → NamesPort d f c k p
    into None e here = absurd (none_set p here)
    into (Some (Node n)) e here = absurd (none_set p here)
    into (Some (Switch s q)) e here =
        elim (cases_lt k (length f.address)) [
          | inl lt ↦ record { switch = s; arrival = q; ends = e; bytes_left = lt; named = rw (lt-ltb k (length f.address) lt) at here }
          | inr le ↦ absurd (none_set p (rw (le-ltb k (length f.address) le) at here))
        ]

    back : NamesPort d f c k p → IsBitSet (ports_at_end d f k (end_of d c)) p
    back h = rw (h.ends, lt-ltb k (length f.address) h.bytes_left) h.named

module _ (d : Declaration) (f : FlowEntry) where
  -- one place
  pub added_one : (place : Place) (sets : List ℕ) (at ports union : ℕ) → place.channel < length sets → at ≡ place.channel → ports ≡ ports_named d f place.channel place.deleted
      → union ≡ bit_or (get_or sets place.channel 0) ports → AreAdded d f (place ∷ []) sets (set sets at union)
  added_one place sets at ports union lt here named both = record {
    size = length-set sets at union;
    ports = λ c p. elim (cases_eq c place.channel) [
      | inl same ↦ on c p same
      | inr other ↦ off c p other
    ];
  }
    where
      on : (c p : ℕ) → c ≡ place.channel → IsBitSet (slice_index (set sets at union) c) p ↔ (IsBitSet (slice_index sets c) p ⊎ IsNamedAt d f (place ∷ []) c p)
      on c p same =
          let e : get_or (set sets at union) c 0 ≡ bit_or (get_or sets c 0) (ports_named d f c place.deleted) =
          ap (λ k. get_or (set sets k union) c 0) (here ∙ sym same) ∙ get_or-set_same sets c union 0 (omega arith) ∙ both
          ∙ ap (λ k. bit_or (get_or sets k 0) ports) (sym same) ∙ ap (bit_or (get_or sets c 0)) (named ∙ ap (λ k. ports_named d f k place.deleted) (sym same)) in
          let parts = or_members (get_or sets c 0) (ports_named d f c place.deleted) p in (
            λ h. elim (parts.0 (subst (λ (n : ℕ). IsBitSet n p) e h)) [
              | inl old ↦ inl old
              | inr new ↦ inr (record { place = place; listed = Contains-head place []; on = sym same; named = (ports_are_named d f c place.deleted p).0 new })
            ],
            λ h. subst (λ (n : ℕ). IsBitSet n p) (sym e) (parts.1 (elim h [
              | inl old ↦ inl old
              | inr new ↦ inr (elim (Contains-cases place new.place [] new.listed) [
                | inl is ↦ subst (λ (q : Place). IsBitSet (ports_named d f c q.deleted) p) (sym is) ((ports_are_named d f c new.place.deleted p).1 new.named)
                | inr none ↦ absurd (none_in new.place none)
              ])
            ])),
          )

      off : (c p : ℕ) → (c ≡ place.channel → ⊥) → IsBitSet (slice_index (set sets at union) c) p ↔ (IsBitSet (slice_index sets c) p ⊎ IsNamedAt d f (place ∷ []) c p)
      off c p other =
          let e : get_or (set sets at union) c 0 ≡ get_or sets c 0 = get_or-set_other sets at c union 0 (λ same. other (same ∙ here)) in (
            λ h. inl (subst (λ (n : ℕ). IsBitSet n p) e h),
            λ h. elim h [
              | inl old ↦ subst (λ (n : ℕ). IsBitSet n p) (sym e) old
              | inr new ↦ elim (Contains-cases place new.place [] new.listed) [
                | inl is ↦ absurd (other (sym new.on ∙ ap (λ (q : Place). q.channel) (sym is)))
                | inr none ↦ absurd (none_in new.place none)
              ]
            ],
          )

  pub added_none : (sets : List ℕ) → AreAdded d f [] sets sets
  added_none sets = record { size = refl; ports = λ c p. (λ h. inl h, λ h. elim h [ inl old ↦ old | inr new ↦ absurd (none_in new.place new.listed) ]) }

  pub added_more : (ps : List Place) (q : Place) (sets sets1 sets2 : List ℕ) → AreAdded d f ps sets sets1 → AreAdded d f (q ∷ []) sets1 sets2 → AreAdded d f (ps ++ q ∷ []) sets sets2
  added_more ps q sets sets1 sets2 a b = record {
    size = b.size ∙ a.size;
    ports = λ c p. (
      λ h. elim ((b.ports c p).0 h) [
        | inl before ↦ elim ((a.ports c p).0 before) [
          | inl old ↦ inl old
          | inr new ↦ inr (record { place = new.place; listed = Contains-append_left ps (q ∷ []) new.place new.listed; on = new.on; named = new.named })
        ]
        | inr new ↦ inr (record { place = new.place; listed = Contains-append_right ps (q ∷ []) new.place new.listed; on = new.on; named = new.named })
      ],
      λ h. elim h [
        | inl old ↦ (b.ports c p).1 (inl ((a.ports c p).1 (inl old)))
        | inr new ↦ elim (Contains-append_cases ps (q ∷ []) new.place new.listed) [
          | inl before ↦ (b.ports c p).1 (inl ((a.ports c p).1 (inr (record { place = new.place; listed = before; on = new.on; named = new.named }))))
          | inr last ↦ (b.ports c p).1 (inr (record { place = new.place; listed = last; on = new.on; named = new.named }))
        ]
      ],
    );
  }

-- ---- flow by flow

zeros : (n c : ℕ) → slice_index (replicate n 0) c ≡ 0
zeros n c =
    elim (cases_lt c n) [
      | inl lt ↦ get_or-replicate n c 0 0 lt
      | inr le ↦ let past : length (replicate n 0) ≤ c = omega (arith, length-replicate {A = ℕ} n 0) in get_or_past (replicate n 0) c 0 past
    ]

module _ (d : Declaration) (low : ℕ) where
  pub named_none : (n : ℕ) → n ≡ length (ends_of d) → AreNamed d low low (replicate n 0)
  named_none n long = record {
    size = length-replicate {A = ℕ} n 0 ∙ long;
    ports = λ c p. (
      λ here. absurd (none_set p (subst (λ (s : ℕ). IsBitSet s p) (zeros n c) here)),
      λ h. let above = h.from in let below = h.below in absurd (omega arith),
    );
  }

  pub named_more : (n : ℕ) (f : FlowEntry) (places : List Place) (sets sets2 : List ℕ) → low ≤ n → slice_get (all_flows d) n ≡ Some f → IsPlaceList d f places → AreNamed d low n sets
      → AreAdded d f places sets sets2 → AreNamed d low (n + 1) sets2
  named_more n f places sets sets2 from numbered list before added = record {
    size = added.size ∙ before.size;
    ports = λ c p. (
      λ here. elim ((added.ports c p).0 here) [
        | inl old ↦
            let h = (before.ports c p).0 old in
            let lt = h.below in
            record { number = h.number; flow = h.flow; from = h.from; below = omega arith; numbered = h.numbered; deleted = h.deleted; place = h.place; named = h.named }
        | inr new ↦
            let place = (list.member new.place).0 new.listed in
            record { number = n; flow = f; from = from; below = omega arith; numbered = numbered; deleted = new.place.deleted; place = subst (λ (e : ℕ). IsPlace d f e new.place.deleted) new.on place; named = new.named }
      ],
      λ h. (added.ports c p).1 (elim (cases_eq h.number n) [
        | inl same ↦
            let is : f ≡ h.flow = same_Some f h.flow (sym numbered ∙ ap (slice_get (all_flows d)) (sym same) ∙ h.numbered) in
            let at : Place = record { channel = c; deleted = h.deleted } in
            inr (record {
              place = at;
              listed = (list.member at).1 (subst (λ (g : FlowEntry). IsPlace d g c h.deleted) (sym is) h.place);
              on = refl;
              named = subst (λ (g : FlowEntry). NamesPort d g c h.deleted p) (sym is) h.named;
            })
        | inr other ↦
            let lt = h.below in
            inl ((before.ports c p).1 (record { number = h.number; flow = h.flow; from = h.from; below = omega arith; numbered = h.numbered; deleted = h.deleted; place = h.place; named = h.named }))
      ]),
    );
  }

-- the list of the flow of a number
pub listed_at : (d : Declaration) (fs : List FlowEntry) (lists : List (Vec Place Global)) (i : ℕ) (f : FlowEntry) (v : Vec Place Global) → AllZip (λ g ps. IsPlaceList d g ps.items) fs lists
    → slice_get fs i ≡ Some f → v ≡ get_or lists i v → IsPlaceList d f v.items
listed_at d [] lists i f v h at is = absurd cc
listed_at d (g ∷ fs) [] i f v h at is = absurd h
listed_at d (g ∷ fs) (w ∷ lists) zero f v h at is = subst (λ (u : Vec Place Global). IsPlaceList d f u.items) (sym is) (subst (λ (e : FlowEntry). IsPlaceList d e w.items) (same_Some g f at) h.0)
listed_at d (g ∷ fs) (w ∷ lists) (suc i) f v h at is = listed_at d fs lists i f v h.1 at is

-- each place is on a channel that has a set
pub all_inside : (d : Declaration) (f : FlowEntry) (places : List Place) (n : ℕ) → IsPlaceList d f places → n ≡ length (ends_of d) → All (λ p. p.channel < n) places
all_inside d f places n list long i q lt =
    let p = get_or places i q in
    let place = (list.member p).0 (Contains-get_or places i q lt) in
    let inside = (places_are_in d f p.channel p.deleted place).0 in
    omega arith
