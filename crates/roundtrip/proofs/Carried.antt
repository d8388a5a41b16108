-- What save wrote of a file is loaded back, and saved again to the same text.
use Prim.Native.Nat.{ℕ, ◌<◌, ◌≤◌}
use mathlib.Core.Path.{◌≡◌, refl, sym, ap, ◌∙◌}
use mathlib.Core.List.{List, []}
use native.Mathlib.Omega.{arith}
use lib.Dec.{leb}
use lib.ListN.{length, take}
use borrow.Author.Tests.{leb-true}
use Rattle.words.proofs.Parts.{part_same}
use Rattle.rules.specs.Limits.{files}
use Rattle.rules.specs.State.{Built, unbuilt, built}
use Rattle.rules.specs.Reply.{shows, Out, leaves}
use Rattle.rules.specs.Sheet.{sheet}
use Rattle.rules.specs.Sheet as sheets
use Rattle.rules.specs.Calls.{ask, ask_built}
use Rattle.rules.specs.Calls as calls
use Rattle.rules.specs.Desk.{Desk, file_of, asked, respond, reply_bytes}
use Rattle.rules.specs.Desk as desk
use Rattle.rules.specs.Allocation.{Alloc}
use Rattle.rules.proofs.Split.{both}
use Rattle.memory.specs.Memories.{Memories}
use Rattle.memory.specs.Fine.{StandsFor}
use Rattle.midst.specs.Outcome.{reply_status}
use Rattle.promises.specs.Promise.{status, written, given_status, given_size, given_memory, stands, reply_of, shown, said, Behind, Promise}
use Rattle.promises.specs.Promise as host
use Rattle.roundtrip.specs.Trip.{DeskTrip}
use Rattle.roundtrip.specs.Carried.{Carried}
use Rattle.roundtrip.proofs.Trip.{saves, trip}
use Rattle.roundtrip.proofs.Stands.{stands-written}
use Rattle.roundtrip.proofs.Desks.{on-reply, desks}

-- what is given of a reply that shows a text, in an output that the text fits
shown-text : (st n : ℕ) (t output output' : List ℕ) → written st n output' ≡ shown output (shows 0 t) → length t ≤ length output → (st ≡ 0) × (n ≡ length t) × (take n output' ≡ t)
unfolding shown reply_status reply_bytes given_status given_size given_memory
shown-text st n t output output' e h =
    let size : n ≡ length t = ap given_size e in
    (ap given_status e, size, rw (size, ap given_memory e) (part_same output t 0 (length t) refl (omega (arith, h))))

-- a save that is not refused had room
save-fits : (b : Built) (n : ℕ) → reply_status (ask (built b) (calls.save n)).reply ≡ 0 → length (sheet b.geo b.store.recs) ≤ n
unfolding ask ask_built sheets.save leaves reply_status
save-fits b n =
    let t = sheet b.geo b.store.recs in
    both (λ (o : Out). reply_status o.reply ≡ 0 → length t ≤ n) (leb (length t) n) (λ e _. leb-true (length t) n e) (λ _ z. absurd (omega (arith, z)))

-- file f of a desk that memories stand for is saved
module _ (m m' : Memories) {d : Desk} {s : Alloc} (S : StandsFor m d s) (f : ℕ) (lf : f < files) (b : Built) (ef : file_of d f ≡ built b)
    (output output' : List ℕ) (n : ℕ) (saved : Promise m (host.save f output) (written 0 n output') m') where
  abbrev t : List ℕ
  t = sheet b.geo b.store.recs

  is-saved : written 0 n output' ≡ shown output (ask (built b) (calls.save (length output))).reply
  unfolding Promise reply_of respond asked
  is-saved = (saved _ (stands d s S)).0 ∙ ap (shown output) (on-reply d f lf (built b) ef (calls.save (length output)) _ refl)

  had-room : length t ≤ length output
  unfolding shown given_status
  had-room = save-fits b (length output) (sym (ap given_status is-saved))

  is-text : (n ≡ length t) × (take n output' ≡ t)
  is-text = let k = shown-text 0 n t output output' (is-saved ∙ ap (shown output) (saves b (length output) t refl had-room)) had-room in (k.1, k.2)

  -- the sheet is loaded into file g of a desk that the same or other memories stand for
  module _ (k k' : Memories) {c : Desk} {a : Alloc} (T : StandsFor k c a) (g : ℕ) (lg : g < files) (eg : file_of c g ≡ unbuilt) (st : ℕ)
      (loaded : Promise k (host.load g (take n output')) (status st) k') where
    abbrev behind : Desk
    behind = (respond c (desk.load g (take n output'))).desk

    told : DeskTrip d f b c g (length output)
    told = desks d f b c g (length output) lf ef T.agreed.eight lg eg (trip b (length output) (stands-written m d s f b S lf ef) had-room)

    same_text : take n output' ≡ told.text
    unfolding respond asked reply_bytes
    same_text =
        let e = on-reply d f lf (built b) ef (calls.save (length output)) (shows 0 t) (saves b (length output) t refl had-room) in
        is-text.1 ∙ ap reply_bytes (sym e ∙ told.saves)

    -- saved again, in any output that the sheet fits
    saved-again : file_of behind g ≡ built told.back → (output₂ output₃ : List ℕ) (st₂ n₂ : ℕ) (k'' : Memories) → Promise k' (host.save g output₂) (written st₂ n₂ output₃) k''
        → length (take n output') ≤ length output₂ → (st₂ ≡ 0) × (n₂ ≡ length (take n output')) × (take n₂ output₃ ≡ take n output')
    unfolding Promise reply_of respond asked Behind
    saved-again e output₂ output₃ st₂ n₂ k'' saved₂ h =
        let room : length t ≤ length output₂ = omega (arith, h, ap (λ (x : List ℕ). length x) is-text.1) in
        let r = on-reply behind g lg (built told.back) e (calls.save (length output₂)) (shows 0 t) (saves told.back (length output₂) t (rw (told.geo, told.recs)) room) in
        let U = (loaded _ (stands c a T)).1.stands in
        let (z, size, x) = shown-text st₂ n₂ t output₂ output₃ ((saved₂ _ (stands behind _ U)).0 ∙ ap (shown output₂) r) room in
        (z, size ∙ sym (ap (λ (x : List ℕ). length x) is-text.1), x ∙ sym is-text.1)

    pub carried : Carried b (take n output') c g st k'
    unfolding Promise reply_of said reply_status given_status
    carried =
        let r : (respond c (desk.load g (take n output'))).reply ≡ shows 0 [] = rw same_text told.loads in
        let e : file_of (respond c (desk.load g (take n output'))).desk g ≡ built told.back = rw same_text told.leaves in
        record {
          loads = ap given_status (loaded _ (stands c a T)).0 ∙ ap reply_status r;
          back = told.back;
          leaves = e;
          geo = told.geo;
          recs = told.recs;
          again = saved-again e;
        }
