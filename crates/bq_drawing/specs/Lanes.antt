-- Intervals of time, side by side in lanes. A lane is given by the moment from which it is free.
use Rattle.std.specs.Prelude.{ℕ, ◌+◌, List, [], ◌∷◌, ◌++◌, Option, Some, None, length, position, nat_le, nat_lt, slice_set, if◌then◌else◌}
use Rattle.bq_drawing.specs.declared.lanes.TaskInterval.{TaskInterval}

-- the first lane that is free at a moment
abbrev pub first_free : ℕ → List ℕ → Option ℕ
first_free at lanes = position (λ (until : ℕ). nat_le until at) lanes

-- how many intervals are drawn one above another at most
abbrev pub most_lanes : ℕ
most_lanes = 16

-- this lane if there is one; otherwise a new one, or none if there are `most_lanes` already
abbrev pub or_one_more : List ℕ → Option ℕ → Option ℕ
or_one_more lanes (Some lane) = Some lane
or_one_more lanes None = if nat_lt (length lanes) most_lanes then Some (length lanes) else None

-- the lane that an interval takes: the first that is free when it begins, or a new one
abbrev pub lane_of : TaskInterval → List ℕ → Option ℕ
lane_of interval lanes = or_one_more lanes (first_free interval.from lanes)

-- the lanes after one of them, or a new one, is taken up to this moment
abbrev pub lanes_taken : Option ℕ → ℕ → List ℕ → List ℕ
lanes_taken None to lanes = lanes
lanes_taken (Some lane) to lanes = if nat_lt lane (length lanes) then slice_set lanes lane to else lanes ++ (to ∷ [])

-- the lanes after intervals have taken theirs, one after another; `room` says how much room an interval needs
unfoldable pub lanes_after : (TaskInterval → TaskInterval) → List ℕ → List TaskInterval → List ℕ
lanes_after room lanes [] = lanes
lanes_after room lanes (interval ∷ later) = lanes_after room (lanes_taken (lane_of (room interval) lanes) (room interval).to lanes) later

-- 1 if an interval finds no lane, otherwise 0
abbrev pub without_lane : Option ℕ → ℕ
without_lane None = 1
without_lane (Some lane) = 0

-- how many of these intervals find no lane
unfoldable pub left_out : (TaskInterval → TaskInterval) → List ℕ → List TaskInterval → ℕ
left_out room lanes [] = 0
left_out room lanes (interval ∷ later) =
    without_lane (lane_of (room interval) lanes) + left_out room (lanes_taken (lane_of (room interval) lanes) (room interval).to lanes) later
