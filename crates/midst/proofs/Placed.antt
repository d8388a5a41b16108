-- An accessor of a file, with an entry for its request: what its queues and its reply port are, and what they become when its request changes.
use Prim.Native.Nat.{ℕ, suc, ◌*◌, ◌<◌}
use mathlib.Core.Path.{◌≡◌, sym, ap, ◌∙◌}
use mathlib.Core.Bool.{Bool, true, false}
use mathlib.Core.List.{List, []}
use mathlib.Core.Option.{none, some}
use native.Mathlib.Omega.{arith}
use lib.Dec.{eqb}
use lib.ListN.{length, get_or}
use Rattle.occurrences.specs.Count.{count}
use Rattle.rules.specs.Limits.{files, places}
use Rattle.rules.specs.State.{Req, Acc, Built, built}
use Rattle.rules.specs.Requests.{acc_at, alter, with_req, without}
use Rattle.rules.specs.Desk.{Desk, file_of}
use Rattle.rules.specs.Allocation.{Alloc, place_of, held_at, own_entry, port_of}
use Rattle.laws.specs.Outstanding.{outstanding, req_of}
use Rattle.laws.specs.Outstanding as laws
use Rattle.laws.specs.Counts.{count_t}
use Rattle.laws.specs.Entries.{size, Agrees}
use Rattle.laws.specs.Queues.{Agree}
use Rattle.laws.specs.EightFiles.{EightFiles}
use Rattle.laws.proofs.Accessors.{get_or-alter-same, get_or-alter-other}
use Rattle.laws.proofs.Happenings.{open-below, place-of-desk}
use Rattle.laws.proofs.Sieve.{count_t-sieve}
use Rattle.segment.specs.Layout.{reply_port}
use Rattle.ports.specs.Index.{cut, index}
use Rattle.memory.specs.Image.{acc_of, place_acc, req_words, place_words, list_of, port_words, box_of}
use Rattle.memory.proofs.Image.{place_acc-of, list_of-port, box_of-port}
use Rattle.memory.proofs.Boxes.{get_or-lists_of, get_or-boxes_of}
use Rattle.midst.specs.Seg.{Seg, queue_at, side_queue}
use Rattle.midst.proofs.Lists.{entries_in, words_in, list-side, box-side}
use Rattle.midst.proofs.Cuts.{map-removed, map-absent}
use Rattle.midst.proofs.Boxed.{Boxed}
use Rattle.midst.proofs.Terms.{waits_at, place_other}

-- the accessor a at place p of file f of a desk, and the allocation t: an entry for its request, one more where the clock has its timer
pub record Placed (f p : ℕ) (d : Desk) (b : Built) (a : Acc) (t : Alloc) : Type 0 where
  pub file : f < files
  pub place : p < places
  pub eight : EightFiles d
  pub was : file_of d f ≡ built b
  pub queues : Agree b
  pub opens : acc_at b p ≡ some a
  pub long : length t.held ≡ files * places
  pub holds : size (held_at t (place_of f p)) ≡ suc (count_t (place_of f p) t.clock)

-- where desk and allocation agree, an accessor with a request outstanding
pub placed_of : (f p : ℕ) (d : Desk) (b : Built) (a : Acc) (t : Alloc) → f < files → EightFiles d → file_of d f ≡ built b → Agree b → acc_at b p ≡ some a
    → length t.held ≡ files * places → Agrees f t b.accs b.timers → outstanding a.req ≡ 1 → Placed f p d b a t
unfolding acc_at laws.req_of
placed_of f p d b a t hf eight was queues opens long A n =
    let hp : p < places = open-below b.accs p a A.eight opens in
    record {
      file = hf;
      place = hp;
      eight = eight;
      was = was;
      queues = queues;
      opens = opens;
      long = long;
      holds = omega (arith, A.holds p hp, ap outstanding (ap laws.req_of opens), count_t-sieve f p t.clock hp, ap (count_t p) A.clock);
    }

module _ {f p : ℕ} {d : Desk} {b : Built} {a : Acc} {t : Alloc} (P : Placed f p d b a t) where
  abbrev i : ℕ
  i = place_of f p

  pub hi : i < files * places
  hi = place-of-desk f p P.file P.place

  pub count-side : (w : Bool) (x : ℕ) → count x (side_queue w b) ≡ waits_at w (req_of (acc_at b x))
  unfolding acc_at
  count-side true x = (P.queues x).writes
  count-side false x = (P.queues x).reads

  pub count-here : (w : Bool) → count p (side_queue w b) ≡ waits_at w a.req
  unfolding req_of
  count-here w = count-side w p ∙ ap (waits_at w) (ap req_of P.opens)

  pub stands : {xs : List ℕ} {k : ℕ} (S : Seg xs d t k) → Boxed xs [] [] (list_of d t) (box_of d t) S.rows
  stands S = record { heads = _; datas = _; boxes = S.boxes; lists = get_or-lists_of d t; holds = get_or-boxes_of d t }

  pub port-was : (list_of d t (reply_port i) ≡ port_of a.req i t) × (box_of d t (reply_port i) ≡ port_words i a.req)
  unfolding acc_of req_of
  port-was =
      let q : req_of (place_acc d i) ≡ a.req = ap req_of (place_acc-of d f p P.place ∙ ap (λ y. acc_of y p) P.was ∙ P.opens) in
      (list_of-port d t i hi ∙ ap (λ r. port_of r i t) q, box_of-port d t i hi ∙ ap (port_words i) q)

  -- the request becomes q, and only this place changes in the allocation
  module _ (q : Req) (c : Built) (u : Alloc) (accs : c.accs ≡ alter (with_req q) b.accs p) (held : (j : ℕ) → (j ≡ i → ⊥) → held_at u j ≡ held_at t j) where
    acc-now : acc_at c p ≡ some (with_req q a)
    unfolding acc_at
    acc-now = ap (λ l. get_or l p none) accs ∙ get_or-alter-same (with_req q) a b.accs p P.opens

    pub acc-other : (x : ℕ) → (p ≡ x → ⊥) → acc_at c x ≡ acc_at b x
    unfolding acc_at
    acc-other x n = ap (λ l. get_or l x none) accs ∙ get_or-alter-other (with_req q) b.accs p x n

    pub req-now : req_of (acc_at c p) ≡ q
    unfolding req_of with_req
    req-now = ap req_of acc-now

    pub row_now : place_words (acc_at c p) ≡ place_words (acc_at b p)
    unfolding place_words with_req
    row_now = ap place_words acc-now ∙ sym (ap place_words P.opens)

    -- what the queues become
    module _ (w : Bool) (out : side_queue w c ≡ without p (side_queue w b)) where
      entry-as : (x : ℕ) → (x ≡ p → ⊥) → own_entry (held_at u (place_of f x)) ≡ own_entry (held_at t (place_of f x))
      entry-as x n = ap own_entry (held (place_of f x) (place_other f p x n))

      words-as : (x : ℕ) → (x ≡ p → ⊥) → req_words (place_of f x) (req_of (acc_at c x)) ≡ req_words (place_of f x) (req_of (acc_at b x))
      words-as x n = ap (λ o. req_words (place_of f x) (req_of o)) (acc-other x (λ z. n (sym z)))

      pub queue-less : count p (side_queue w b) ≡ 1
          → (cut (index (λ x. eqb x p) (side_queue w b)) (list_of d t (queue_at w f)) ≡ entries_in f u (side_queue w c))
          × (cut (index (λ x. eqb x p) (side_queue w b)) (box_of d t (queue_at w f)) ≡ words_in f c (side_queue w c))
      queue-less z = (
        ap (cut _) (list-side d t f P.file b P.was w) ∙ sym (ap (entries_in f u) out ∙ map-removed p _ _ entry-as (side_queue w b) z),
        ap (cut _) (box-side d t f P.file b P.was w) ∙ sym (ap (words_in f c) out ∙ map-removed p _ _ words-as (side_queue w b) z),
      )

      pub queue-still : count p (side_queue w b) ≡ 0 → (list_of d t (queue_at w f) ≡ entries_in f u (side_queue w c)) × (box_of d t (queue_at w f) ≡ words_in f c (side_queue w c))
      queue-still z = (
        list-side d t f P.file b P.was w ∙ sym (ap (entries_in f u) out ∙ map-absent p _ _ entry-as (side_queue w b) z),
        box-side d t f P.file b P.was w ∙ sym (ap (words_in f c) out ∙ map-absent p _ _ words-as (side_queue w b) z),
      )
