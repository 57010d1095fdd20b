-- What holds of a catalogue made otherwise, whose answers document 02 leaves free: behind any act there are 64 places again, how many are listed
-- and the tally stay within 64 or what they were. Assumes nothing.
use Rattle.std.proofs.Common.{◌≡◌, ℕ, suc, ◌+◌, ◌≤◌, max, Bool, true, false, cond, ltb, ◌∷◌, length, drop, refl, ◌∙◌, arith, length-append, length-drop, length-take, ltb-true}
use Rattle.catalogue.specs.Entries.{entry_of, inserted, without, uses}
use Rattle.catalogue.specs.Catalogue.{Catalogue, no_entry, listing, size, raised}
use Rattle.catalogue.specs.Acts.{Act, after}
use Rattle.catalogue.proofs.Histories.{Effect, refused, put_in, taken_out, effect, length_inserted, length_without, uses-one}

pub record StaysWithin (c behind : Catalogue) : Type 0 where
  pub places : length behind.places ≡ 64
  pub used : behind.used ≤ max c.used 64
  pub tally : behind.tally ≤ max c.tally 64

raised_within : (tally more : ℕ) → more ≤ 1 → raised tally more ≤ max tally 64
raised_within tally more small = go (ltb tally 64) refl where
  go : (t : Bool) → ltb tally 64 ≡ t → cond t (tally + more) tally ≤ max tally 64
  go true t = omega (arith, ltb-true tally 64 t)
  go false t = omega arith

pub any_block : (c : Catalogue) (act : Act) → length c.places ≡ 64 → StaysWithin c (after c act)
any_block c act whole = go (effect c act) where
  few : size c ≤ 64
  few = omega (arith, length-take c.used c.places, whole)

  go : {a : Act} → Effect c a → StaysWithin c (after c a)
  go (refused bad same) = rw same (record { places = whole; used = omega arith; tally = omega arith })
  go (put_in {n} {f} ok fine is) =
      let e = entry_of n f in
      rw is
      (record {
        places =
            length-append (inserted e (listing c)) (drop (suc (size c)) c.places)
            ∙ omega (arith, length_inserted e (listing c), length-drop (suc (size c)) c.places, fine.room, whole);
        used = omega (arith, fine.room);
        tally = raised_within c.tally (uses f) (uses-one e);
      })
  go (taken_out {n} {f} ok found is) =
      rw is
      (record {
        places =
            length-append (without n (listing c)) (no_entry ∷ drop (size c) c.places)
            ∙ omega (arith, length_without n f (listing c) found, length-drop (size c) c.places, few, whole);
        used = omega (arith, few);
        tally = omega arith;
      })
