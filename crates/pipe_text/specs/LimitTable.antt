-- The limits of a file, each by its name.
use Rattle.std.specs.Prelude.{ℕ, List, codes}
use Rattle.pipe_text.specs.declared.fault.LimitName.{LimitName}
use Rattle.pipe_text.specs.declared.fault.LimitName.TheVariants as limit

-- the greatest number that a limit lets pass
abbrev pub number_of : LimitName → ℕ
number_of limit.File = 1048576
number_of limit.Inputs = 256
number_of limit.Pools = 16
number_of limit.Clients = 64
number_of limit.Workers = 8
number_of limit.Ops = 256
number_of limit.Nodes = 1000
number_of limit.Terms = 4096
number_of limit.Depth = 64
number_of limit.Text = 65536
number_of limit.Name = 64
number_of limit.List = 256
number_of limit.Words = 64
number_of limit.Hold = 86400000
number_of limit.Rate = 1000
number_of limit.Capacity = 8
number_of limit.Cost = 1000000
number_of limit.ValidFor = 1000000000000
number_of limit.Minute = 1439
number_of limit.Day = 28
number_of limit.Offset = 1080

-- the least number that a limit lets pass
abbrev pub least_of : LimitName → ℕ
least_of limit.Rate = 1
least_of limit.Capacity = 1
least_of limit.ValidFor = 1
least_of limit.Day = 1
least_of limit.File = 0
least_of limit.Inputs = 0
least_of limit.Pools = 0
least_of limit.Clients = 0
least_of limit.Workers = 0
least_of limit.Ops = 0
least_of limit.Nodes = 0
least_of limit.Terms = 0
least_of limit.Depth = 0
least_of limit.Text = 0
least_of limit.Name = 0
least_of limit.List = 0
least_of limit.Words = 0
least_of limit.Hold = 0
least_of limit.Cost = 0
least_of limit.Minute = 0
least_of limit.Offset = 0

-- the letters of a limit's name
abbrev pub limit_letters : LimitName → List ℕ
limit_letters limit.File = codes "file"
limit_letters limit.Inputs = codes "inputs"
limit_letters limit.Pools = codes "pools"
limit_letters limit.Clients = codes "clients"
limit_letters limit.Workers = codes "workers"
limit_letters limit.Ops = codes "ops"
limit_letters limit.Nodes = codes "nodes"
limit_letters limit.Terms = codes "terms"
limit_letters limit.Depth = codes "depth"
limit_letters limit.Text = codes "text"
limit_letters limit.Name = codes "name"
limit_letters limit.List = codes "list"
limit_letters limit.Words = codes "words"
limit_letters limit.Hold = codes "hold"
limit_letters limit.Rate = codes "rate"
limit_letters limit.Capacity = codes "capacity"
limit_letters limit.Cost = codes "cost"
limit_letters limit.ValidFor = codes "valid_for"
limit_letters limit.Minute = codes "minute"
limit_letters limit.Day = codes "day"
limit_letters limit.Offset = codes "offset"
