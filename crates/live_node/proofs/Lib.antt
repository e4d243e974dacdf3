mod Said
mod Behind
mod Causes
mod Statuses
mod Opening
