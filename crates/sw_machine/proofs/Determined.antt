-- A state and a step determine the state after.
use Rattle.std.proofs.Common.{List, ap, suc, sym, ℕ, ◌∙◌, ◌∷◌, ◌≡◌}
use Rattle.std.specs.Prelude.{if◌then◌else◌}
use Rattle.sw_char.specs.declared.nchar.NChar.{NChar}
use Rattle.sw_char.specs.declared.nchar.NChar.TheVariants.{Data, Eep, Eop}
use Rattle.sw_machine.proofs.Cuts.{cuts_are_equal}
use Rattle.sw_machine.specs.Network.{Network}
use Rattle.sw_machine.specs.State.{State, after_accept, after_arrive, after_drop_marker, after_emit, after_fct_in, after_forward, after_grant, after_reply, after_spill}
use Rattle.sw_machine.specs.Steps.{Accept, Arrive, Begin, Drop, Drops, Emit, Fct, FctIn, Forward, Grant, Leads, Reply, Spill, Step}
use Rattle.sw_machine.specs.declared.input.InputState.TheVariants.{Held}
use Rattle.sw_machine.proofs.Steps.{switch_is}

module _ (net : Network) (s : State) where
  drops : (c w v : ℕ) (x y : NChar) (l k : List NChar) (t u : State) → w ≡ v → x ≡ y → l ≡ k → Drops net s c w x l t → Drops net s c v y k u → t ≡ u
  drops c w v (Data a) (Data b) l k t u ew ex el h i = h.1 ∙ sym i.1
  drops c w v (Data a) Eop l k t u ew ex el h i = absurd (cc)
  drops c w v (Data a) Eep l k t u ew ex el h i = absurd (cc)
  drops c w v Eop (Data b) l k t u ew ex el h i = absurd (cc)
  drops c w v Eop Eop l k t u ew ex el h i = h ∙ ap (after_drop_marker s c) el ∙ sym i
  drops c w v Eop Eep l k t u ew ex el h i = absurd (cc)
  drops c w v Eep (Data b) l k t u ew ex el h i = absurd (cc)
  drops c w v Eep Eop l k t u ew ex el h i = absurd (cc)
  drops c w v Eep Eep l k t u ew ex el h i = h ∙ ap (after_drop_marker s c) el ∙ sym i

  pub determined : (step : Step) (t u : State) → Leads net s step t → Leads net s step u → t ≡ u
  determined (Fct c) t u h i = h.after ∙ sym i.after
  determined (FctIn c) t u h i =
      let e : suc h.remaining ≡ suc i.remaining = sym h.under_way ∙ i.under_way in
      let r : h.remaining ≡ i.remaining = cc in
      h.after ∙ ap (after_fct_in s c) r ∙ sym i.after
  determined (Arrive c) t u h i =
      let e : h.first ∷ h.rest ≡ i.first ∷ i.rest = sym h.on_wire ∙ i.on_wire in
      let x : h.first ≡ i.first = cc in
      let l : h.rest ≡ i.rest = cc in
      h.after ∙ ap (λ x. after_arrive s c x h.rest) x ∙ ap (after_arrive s c i.first) l ∙ sym i.after
  determined (Grant d c) t u h i =
      let w = switch_is h.switch i.switch (sym h.at ∙ i.at) in
      let e : Data h.h ∷ h.rest ≡ Data i.h ∷ i.rest = sym h.front ∙ i.front in
      let b : h.h ≡ i.h = cc in
      let l : h.rest ≡ i.rest = cc in
      h.after
      ∙ ap (λ w. after_grant s d c (if net.deletes w h.h then h.rest else Data h.h ∷ h.rest)) w
      ∙ ap (λ b. after_grant s d c (if net.deletes i.switch b then h.rest else Data b ∷ h.rest)) b
      ∙ ap (λ l. after_grant s d c (if net.deletes i.switch i.h then l else Data i.h ∷ l)) l
      ∙ sym i.after
  determined (Drop c) t u h i =
      let w = switch_is h.switch i.switch (sym h.at ∙ i.at) in
      let e : h.first ∷ h.rest ≡ i.first ∷ i.rest = sym h.front ∙ i.front in
      let x : h.first ≡ i.first = cc in
      let l : h.rest ≡ i.rest = cc in
      drops c h.switch i.switch h.first i.first h.rest i.rest t u w x l h.after i.after
  determined (Forward c) t u h i =
      let e : h.first ∷ h.rest ≡ i.first ∷ i.rest = sym h.front ∙ i.front in
      let x : h.first ≡ i.first = cc in
      let l : h.rest ≡ i.rest = cc in
      let f : Held h.d ≡ Held i.d = sym h.held ∙ i.held in
      let d : h.d ≡ i.d = cc in
      let g : suc h.remaining ≡ suc i.remaining = sym h.credit ∙ ap s.credit d ∙ i.credit in
      let r : h.remaining ≡ i.remaining = cc in
      h.after
      ∙ ap (λ d. after_forward s c d h.first h.rest h.remaining) d
      ∙ ap (λ x. after_forward s c i.d x h.rest h.remaining) x
      ∙ ap (λ l. after_forward s c i.d i.first l h.remaining) l
      ∙ ap (after_forward s c i.d i.first i.rest) r
      ∙ sym i.after
  determined (Spill c) t u h i =
      let e : h.first ∷ h.rest ≡ i.first ∷ i.rest = sym h.front ∙ i.front in
      let x : h.first ≡ i.first = cc in
      let l : h.rest ≡ i.rest = cc in
      h.after ∙ ap (λ x. after_spill s c x h.rest) x ∙ ap (after_spill s c i.first) l ∙ sym i.after
  determined (Begin f cargo end) t u h i = h.after ∙ sym i.after
  determined (Emit n) t u h i =
      let e : h.first ∷ h.rest ≡ i.first ∷ i.rest = sym h.sending ∙ i.sending in
      let x : h.first ≡ i.first = cc in
      let l : h.rest ≡ i.rest = cc in
      let g : suc h.remaining ≡ suc i.remaining = sym h.credit ∙ i.credit in
      let r : h.remaining ≡ i.remaining = cc in
      h.after
      ∙ ap (λ x. after_emit net s n x h.rest h.remaining) x
      ∙ ap (λ l. after_emit net s n i.first l h.remaining) l
      ∙ ap (after_emit net s n i.first i.rest) r
      ∙ sym i.after
  determined (Accept n) t u h i =
      let e : h.first ∷ h.rest ≡ i.first ∷ i.rest = sym h.front ∙ i.front in
      let x : h.first ≡ i.first = cc in
      let l : h.rest ≡ i.rest = cc in
      let b = (cuts_are_equal (s.taken n) h.packets i.packets h.bytes i.bytes h.cut i.cut).1 in
      h.after
      ∙ ap (λ b. after_accept net s n b h.first h.rest) b
      ∙ ap (λ x. after_accept net s n i.bytes x h.rest) x
      ∙ ap (after_accept net s n i.bytes i.first) l
      ∙ sym i.after
  determined (Reply n) t u h i =
      let e : h.reply ∷ h.others ≡ i.reply ∷ i.others = sym h.waits ∙ i.waits in
      let x : h.reply ≡ i.reply = cc in
      let l : h.others ≡ i.others = cc in
      h.after ∙ ap (λ x. after_reply s n x h.others) x ∙ ap (after_reply s n i.reply) l ∙ sym i.after
