-- What the operations make of links and one queue, as definitions on the values of the structs: the code's promises cite these.
-- What they do to the lists of threads that the links and queues stand for is said in `Stands`, and the laws join the two.
-- A number of 32 or more is no thread: it does not arrive, and an end or a link that is such a number stands for none.
-- Assumes nothing.
use Rattle.std.specs.Prelude.{ℕ, zero, suc, Bool, cond, List, [], ◌∷◌, get_or, set, replicate, eqb, ltb}
use Rattle.queue.specs.declared.Queue.{Queue}
use Rattle.queue.specs.declared.Links.{Links}
use Rattle.queue.specs.declared.Linked.{Linked}
use Rattle.queue.specs.declared.Queues.{Queues}

-- a queue with no thread
abbrev pub empty_queue : Queue
empty_queue = record { first = 255; last = 255 }

-- the links while no thread stands in a queue
unfoldable pub empty_links : Links
empty_links = record { next = replicate 32 255 }

-- no thread at any priority
unfoldable pub empty_queues : Queues
empty_queues = record { levels = replicate 16 empty_queue }

-- links, and one queue by its ends
abbrev pub linked : List ℕ → ℕ → ℕ → Linked
linked next first last = record { links = record { next = next }; queue = record { first = first; last = last } }

-- t arrives at the back: the last is linked to t, which is the last now, and the first too where the queue was empty
unfoldable pub back_model : Links → Queue → ℕ → Linked
back_model k q t =
    cond (ltb t 32)
    (cond (ltb q.last 32) (linked (set k.next q.last t) q.first t) (linked k.next t t))
    (linked k.next q.first q.last)

-- t arrives at the front: t is linked to the first, and is the first now, and the last too where the queue was empty
unfoldable pub front_model : Links → Queue → ℕ → Linked
front_model k q t =
    cond (ltb t 32)
    (linked (set k.next t q.first) t (cond (ltb q.first 32) q.last t))
    (linked k.next q.first q.last)

-- the first leaves and keeps no link: the one that it was linked to is the first now, and without such a one the queue is empty
unfoldable pub leave_model : Links → Queue → Linked
leave_model k q =
    cond (ltb q.first 32)
    (cond (ltb (get_or k.next q.first 0) 32)
    (linked (set k.next q.first 255) (get_or k.next q.first 0) q.last)
    (linked (set k.next q.first 255) 255 255))
    (linked k.next q.first q.last)

-- the thread that t follows on the way from p along at most n links, or 255
unfoldable pub ahead_model : List ℕ → ℕ → ℕ → ℕ → ℕ
ahead_model next zero p t = 255
ahead_model next (suc n) p t = cond (ltb p 32) (cond (eqb (get_or next p 0) t) p (ahead_model next n (get_or next p 0) t)) 255

-- t leaves from behind v and keeps no link: v is linked to the one that t was linked to, and is the last now where t was; without such a v nothing changes
unfoldable pub remove_behind : Links → Queue → ℕ → ℕ → Linked
remove_behind k q v t =
    cond (ltb v 32)
    (linked (set (set k.next v (get_or k.next t 0)) t 255) q.first (cond (eqb q.last t) v q.last))
    (linked k.next q.first q.last)

-- t leaves from wherever it stands, as the first or from behind the one that it follows; where it does not stand in the queue nothing changes
unfoldable pub remove_model : Links → Queue → ℕ → Linked
remove_model k q t =
    cond (ltb t 32)
    (cond (eqb q.first t) (leave_model k q) (remove_behind k q (ahead_model k.next 32 q.first t) t))
    (linked k.next q.first q.last)

-- the threads met from t along the links, at most n
unfoldable pub walk : List ℕ → ℕ → ℕ → List ℕ
walk next zero t = []
walk next (suc n) t = cond (ltb t 32) (t ∷ walk next n (get_or next t 0)) []

-- the threads of a queue in their order
unfoldable pub read_model : Links → Queue → List ℕ
read_model k q = walk k.next 32 q.first

-- the queue of priority p
unfoldable pub level_model : Queues → ℕ → Queue
level_model s p = get_or s.levels p empty_queue

-- with q for the queue of priority p
unfoldable pub with_level_model : Queues → ℕ → Queue → Queues
with_level_model s p q = record { levels = set s.levels p q }

-- the plain search from above: the highest below n where the test holds, or none
unfoldable pub highest_below : (ℕ → Bool) → ℕ → ℕ → ℕ
highest_below holds none zero = none
highest_below holds none (suc n) = cond (holds n) n (highest_below holds none n)

-- whether the queue of priority p has a first
unfoldable pub has_first : Queues → ℕ → Bool
has_first s p = ltb (level_model s p).first 32

-- the highest priority whose queue has a first, or 16
unfoldable pub highest_model : Queues → ℕ
highest_model s = highest_below (has_first s) 16 16
