-- What it does to the segment when a completed request is collected.
use Prim.Native.Nat.{ℕ, ◌<◌}
use mathlib.Core.Path.{◌≡◌, refl, sym, ap, ◌∙◌}
use mathlib.Core.Bool.{Bool, true, false}
use mathlib.Core.List.{List, [], ◌∷◌, map}
use native.Mathlib.Omega.{arith}
use lib.ListN.{replicate}
use Rattle.occurrences.proofs.Counts.{count_head}
use Rattle.rules.specs.Limits.{entries}
use Rattle.rules.specs.State.{idle, Acc, Built, built}
use Rattle.rules.specs.Requests.{alter, with_req, without}
use Rattle.rules.specs.Desk.{Desk, with_file}
use Rattle.rules.specs.Allocation.{own, Alloc, place_of, held_at, ends_at, goes_at, own_entry, port_of, timer_list}
use Rattle.laws.specs.Outstanding.{uncollected}
use Rattle.laws.specs.Counts.{count_t}
use Rattle.laws.proofs.Allots.{ends_at-still}
use Rattle.segment.specs.Layout.{free_list, reply_port, data_words, file_row}
use Rattle.segment.specs.Layout as layout
use Rattle.segment.specs.Table.{nth}
use Rattle.ports.specs.Slots.{unlink}
use Rattle.requests.specs.Moves.{collected}
use Rattle.memory.specs.Image.{req_words, timer_words, file_words, list_of, port_words, box_of}
use Rattle.memory.proofs.Image.{list_of-free, list_of-timers, box_of-free, box_of-timers}
use Rattle.midst.specs.Seg.{Seg, queue_at, side_queue}
use Rattle.midst.proofs.Lists.{port-none}
use Rattle.midst.proofs.Cuts.{without-absent}
use Rattle.midst.proofs.Boxed.{Boxed, over, over-same, over-other, first-boxed, released-boxed}
use Rattle.midst.proofs.Goes.{blank}
use Rattle.midst.proofs.Shifts.{queue-range, Shift, once-apart, seg_shift}
use Rattle.midst.proofs.Placed.{Placed, hi, count-here, stands, port-was, acc-other, req-now, row_now, queue-still}
use Rattle.midst.proofs.Terms.{done-waits, port-one, ends-own, goes-free, goes-clock, goes_other, goes-timers}

module _ {f p : ℕ} {d : Desk} {b : Built} {a : Acc} {t : Alloc} (P : Placed f p d b a t) (done : uncollected a.req ≡ 1) (still : count_t (place_of f p) t.clock ≡ 0)
    {xs : List ℕ} {k : ℕ} (S : Seg xs d t k) where
  abbrev i : ℕ
  i = place_of f p

  -- the entry of the request
  abbrev e : ℕ
  e = own_entry (held_at t i)

  same : ends_at i t ≡ t
  same = ends_at-still i t (omega (arith, P.holds))

  kept : held_at (ends_at i t) i ≡ own e
  kept = ends-own i t (rw P.long (hi P)) (omega (arith, P.holds))

  port-list : list_of d t (reply_port i) ≡ e ∷ []
  port-list = (port-was P).0 ∙ (port-one i a.req t done).0

  port-data : box_of d t (reply_port i) ≡ req_words i a.req ∷ []
  port-data = (port-was P).1 ∙ (port-one i a.req t done).1

  taken-off : (nth xs (reply_port i) ≡ e) × (e < entries)
      × Boxed (unlink xs (reply_port i)) (e ∷ []) (req_words i a.req ∷ []) (over (reply_port i) [] (list_of d t)) (over (reply_port i) [] (box_of d t)) S.rows
  taken-off = first-boxed (stands P S) (reply_port i) e [] (req_words i a.req) [] (omega (arith, hi P)) port-list port-data

  module _ (c : Built) (accs : c.accs ≡ alter (with_req idle) b.accs p) (rq : c.rq ≡ b.rq) (wq : c.wq ≡ b.wq)
      (row : (file_row f ≡ k → ⊥) → file_words (built c) ≡ file_words (built b)) where
    pub seg-collect : (nth xs (reply_port (place_of f p)) < entries) × Seg (collected xs (place_of f p)) (with_file d f (built c)) (goes_at (place_of f p) t) k
    unfolding collected
    seg-collect =
        let w = taken-off in (
          rw w.0 w.1,
          rw w.0
              (seg_shift C S _ _ (released-boxed w.2) row (row_now P idle c (goes_at i t) accs others) (
                over-same free_list _ lists ∙ ap (◌∷◌ e) (off_list free_list (λ z. omega arith) ∙ list_of-free d t) ∙ sym free,
                over-same free_list _ datas ∙ ap (λ (y : List (List ℕ)). replicate data_words 0 ∷ y) (off-data free_list (λ z. omega arith) ∙ box_of-free d t) ∙ sym (ap blank free),
              ) (
                over-other free_list _ lists layout.timer_list (λ z. omega arith) ∙ off_list layout.timer_list (λ z. omega (arith, hi P)) ∙ list_of-timers d t
                    ∙ ap timer_list (sym same) ∙ sym (goes-timers i t e kept (λ _. still)),
                over-other free_list _ datas layout.timer_list (λ z. omega arith) ∙ off-data layout.timer_list (λ z. omega (arith, hi P)) ∙ box_of-timers d t
                    ∙ ap (λ (v : Alloc). map timer_words v.clock) (sym same) ∙ sym (ap (map timer_words) (goes-clock i t e kept)),
              )
              (rw (req-now P idle c (goes_at i t) accs others) (
                over-other free_list _ lists (reply_port i) (λ z. omega arith) ∙ over-same (reply_port i) [] (list_of d t) ∙ sym none.0,
                over-other free_list _ datas (reply_port i) (λ z. omega arith) ∙ over-same (reply_port i) [] (box_of d t) ∙ sym none.1,
              ))
              (λ v. let r = queue-range v f P.file in
              let z = queue-still P idle c (goes_at i t) accs others v (queues v) (count-here P v ∙ done-waits v a.req done) in (
                over-other free_list _ lists (queue_at v f) (λ z. omega (arith, r.0)) ∙ off_list (queue_at v f) (λ z. omega (arith, r.1)) ∙ z.0,
                over-other free_list _ datas (queue_at v f) (λ z. omega (arith, r.0)) ∙ off-data (queue_at v f) (λ z. omega (arith, r.1)) ∙ z.1,
              ))
              (λ j h o. (over-other free_list _ lists j o.free ∙ off_list j o.port, over-other free_list _ datas j o.free ∙ off-data j o.port))),
        )
      where
        lists : ℕ → List ℕ
        lists = over (reply_port i) [] (list_of d t)

        datas : ℕ → List (List ℕ)
        datas = over (reply_port i) [] (box_of d t)

        off_list : (j : ℕ) → (j ≡ reply_port i → ⊥) → lists j ≡ list_of d t j
        off_list j n = over-other (reply_port i) [] (list_of d t) j n

        off-data : (j : ℕ) → (j ≡ reply_port i → ⊥) → datas j ≡ box_of d t j
        off-data j n = over-other (reply_port i) [] (box_of d t) j n

        free : (goes_at i t).free ≡ e ∷ t.free
        free = goes-free i t e kept ∙ ap (λ (v : Alloc). e ∷ v.free) same

        none : (port_of idle i (goes_at i t) ≡ []) × (port_words i idle ≡ [])
        none = port-none idle i (goes_at i t) (unfold uncollected in refl)

        others : (j : ℕ) → (j ≡ i → ⊥) → held_at (goes_at i t) j ≡ held_at t j
        others = goes_other i t e kept

        C : Shift f p d t (goes_at i t) b c
        C = record {
          file = P.file;
          place = P.place;
          eight = P.eight;
          was = P.was;
          accs = acc-other P idle c (goes_at i t) accs others;
          held = others;
          apart = λ w g y h m. once-apart d t S.boxes i (reply_port i) (omega (arith, hi P)) (rw port-list (count_head e [])) w g y h
              (λ z. omega (arith, (queue-range w g h).1));
        }

        queues : (w : Bool) → side_queue w c ≡ without p (side_queue w b)
        queues true = wq ∙ sym (without-absent p b.wq (count-here P true ∙ done-waits true a.req done))
        queues false = rq ∙ sym (without-absent p b.rq (count-here P false ∙ done-waits false a.req done))
