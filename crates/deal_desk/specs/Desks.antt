-- The model: what a clause says of a desk and of its seats.
use Rattle.std.specs.Prelude.{◌≡◌, ℕ, List, length, Contains, Some, None, slice_get}
use Rattle.deal_desk.specs.declared.hand.Hand.{Hand}
use Rattle.deal_desk.specs.declared.job.Job.{Ghosts}
use Rattle.deal_desk.specs.declared.desk.Desk.{Desk}
use Rattle.deal_desk.specs.declared.desk.DeskSeat.{DeskSeat}
use Rattle.deal_desk.specs.Hands.{HasSeats}

-- the jobs that the desk was made with, by place
abbrev pub jobs_of : {T D : Type 0} → Desk T D → List T
jobs_of desk = desk.table.shared.key.value.items

-- what the seat knows
abbrev pub hand_of : {T D : Type 0} {g : Ghosts T D} → DeskSeat T D g → Hand T D
hand_of seat = seat.seat.me.0

-- the seat is one of this desk
abbrev pub IsSeatOf : {T D : Type 0} {g : Ghosts T D} → Desk T D → DeskSeat T D g → Type 0
IsSeatOf desk seat = (seat.seat.table_id ≡ desk.table.shared.table_id) × ((hand_of seat).jobs ≡ jobs_of desk)

-- the seat is one of this desk with nothing out, which has given and merged as many seats as one that knew v
abbrev pub IsIdleSeatOf : {T D : Type 0} {g : Ghosts T D} → Desk T D → Hand T D → DeskSeat T D g → Type 0
IsIdleSeatOf desk v seat = IsSeatOf desk seat × ((hand_of seat).out ≡ None) × HasSeats v.opens v.given v.merged (hand_of seat)

-- this is the value of the job at this place
abbrev pub IsValueAt : {T D : Type 0} → (T → D → Type 0) → List T → ℕ → D → Type 0
IsValueAt {T} is_value jobs place d = (job : T) → slice_get jobs place ≡ Some job → is_value job d

-- one value for each job, in order
abbrev pub AreValues : {T D : Type 0} → (T → D → Type 0) → List T → List D → Type 0
AreValues {T} {D} is_value jobs results = (length results ≡ length jobs) × ((k : ℕ) (d : D) → slice_get results k ≡ Some d → IsValueAt is_value jobs k d)

-- the result at each place was put back at that place
abbrev pub WerePut : {D : Type 0} → List (ℕ × D) → List D → Type 0
WerePut {D} back results = (k : ℕ) (d : D) → slice_get results k ≡ Some d → Contains back (k, d)
